-- Examples: memory.low, which keeps pages as long as others have some to give. What it protects, which pages are open, who gives one, and what is counted where none is open.
use Rattle.std.proofs.Common.{◌≡◌, ℕ, true, false, Bool, List, [], ◌∷◌, ◌++◌, Option, Some, None, refl}
use Rattle.machine.specs.declared.amount.Amount.{Amount}
use Rattle.machine.specs.declared.amount.Amount.TheVariants.{Max, Pages}
use Rattle.machine.specs.declared.event.Goal.TheVariants as goal
use Rattle.machine.specs.declared.event.Setting.TheVariants as setting
use Rattle.machine.specs.declared.event.Query.TheVariants as query
use Rattle.machine.specs.declared.event.Event.TheVariants as event
use Rattle.machine.specs.declared.record.EventCounts.{EventCounts}
use Rattle.machine.specs.declared.record.Guard.TheVariants as guard
use Rattle.machine.specs.declared.record.Key.TheVariants as key
use Rattle.machine.specs.declared.record.Life.TheVariants.{Live}
use Rattle.machine.specs.declared.record.Limits.{Limits}
use Rattle.machine.specs.declared.reply.Reply.TheVariants as reply
use Rattle.machine.specs.declared.reply.Shown.TheVariants as shown
use Rattle.machine.specs.declared.refusal.Refusal.TheVariants.{NoEntry}
use Rattle.machine.specs.Tree.{chain_up, chain, under_at, chain_below, preorder_to}
use Rattle.machine.specs.Pages.{Residence, Held, Going, Away, Page}
use Rattle.machine.specs.Counts.{no_limits, guard_of, no_counts, local, total, count_of}
use Rattle.machine.specs.Tasks.{task_of}
use Rattle.machine.specs.Protection.{effective_along}
use Rattle.machine.specs.State.{State, effective_min, effective_low}
use Rattle.machine.specs.Refusals.{refusal}
use Rattle.machine.specs.Reclaim.{is_above_low, is_takeable, has_takeable, is_open, has_open, is_next, counted_at_take, is_idle}
use Rattle.machine.specs.Lists.{Order, gives, served}
use Rattle.machine.specs.Events.{low_named}
use Rattle.machine.specs.Step.{with_setting, shown_of, Step}
use Rattle.computed.proofs.ExampleStates.{group, max_of, min_of, low_of, memory, of_file, shows, opening, busy, listed_at, young, ordered, by_turns}

-- ---- what a low protects

-- pages 0 to 5 are /p/a's, and 6 and 7 /p/b's: /p uses 8, /p/a 6 and /p/b 2
abbrev eight : List (Option Page)
eight =
    Some (memory 2 (Held 0)) ∷ Some (memory 2 (Held 1)) ∷ Some (memory 2 (Held 2)) ∷ Some (memory 2 (Held 3)) ∷ Some (memory 2 (Held 4)) ∷ Some (memory 2 (Held 5)) ∷ Some (memory 3 (Held 6))
    ∷ Some (memory 3 (Held 7)) ∷ []

-- these settings of /p, /p/a and /p/b. `recursive` says whether protection is
abbrev set_to : Bool → Limits → Limits → Limits → State
set_to recursive p a b = record busy { opening = record opening { frames = 8; recursive = recursive }; limits = no_limits ∷ p ∷ a ∷ b ∷ no_limits ∷ no_limits ∷ []; pages = eight }

-- these lows, and no min
abbrev lows : Bool → ℕ → ℕ → ℕ → State
lows recursive p a b = set_to recursive (low_of p) (low_of a) (low_of b)

-- /p has a low of 4 for children that ask for 6 and 2: 6 * 4 / 8 are /p/a's
low-shared : effective_low (lows false 4 6 2) 0 2 ≡ Pages 3
unfolding chain_up chain under_at chain_below effective_along
low-shared = refl

-- and 2 * 4 / 8 are /p/b's
low-shared_less : effective_low (lows false 4 6 2) 0 3 ≡ Pages 1
unfolding chain_up chain under_at chain_below effective_along
low-shared_less = refl

-- a parent without a low protects nothing below it
low-nothing : effective_low (lows false 0 6 2) 0 2 ≡ Pages 0
unfolding chain_up chain under_at chain_below effective_along
low-nothing = refl

-- for a reclaim of /p, its own low says nothing, and /p/a has its low as it stands
low-of_child : effective_low (lows false 4 6 2) 1 2 ≡ Pages 6
unfolding chain_up chain under_at chain_below effective_along
low-of_child = refl

-- with a low of `max` above it, a child with `max` is protected as far as it uses pages
low-max : effective_low (set_to false (record no_limits { low = Max }) (record no_limits { low = Max }) no_limits) 0 2 ≡ Pages 6
unfolding chain_up chain under_at chain_below effective_along
low-max = refl

-- /p has 5, and its children ask for 2 and 0 and use 6 and 2. With recursive protection /p/a has 2, and of the other 3 its part of 4 in 6
low-recursive : effective_low (lows true 5 2 0) 0 2 ≡ Pages 4
unfolding chain_up chain under_at chain_below effective_along
low-recursive = refl

-- and /p/b, without a low of its own, its part of 2 in 6
low-recursive_less : effective_low (lows true 5 2 0) 0 3 ≡ Pages 1
unfolding chain_up chain under_at chain_below effective_along
low-recursive_less = refl

-- without the switch /p/a has what it asks for
low-not_recursive : effective_low (lows false 5 2 0) 0 2 ≡ Pages 2
unfolding chain_up chain under_at chain_below effective_along
low-not_recursive = refl

-- and /p/b nothing
low-not_recursive_less : effective_low (lows false 5 2 0) 0 3 ≡ Pages 0
unfolding chain_up chain under_at chain_below effective_along
low-not_recursive_less = refl

-- ---- a low and a min

-- lows of 4, 6 and 2, and mins of 8, 1 and 2
abbrev guarded : State
guarded = set_to false (record no_limits { min = Pages 8; low = Pages 4 }) (record no_limits { min = Pages 1; low = Pages 6 }) (record no_limits { min = Pages 2; low = Pages 2 })

-- each comes down by its own settings: the low as above
low-of_low : effective_low guarded 0 2 ≡ Pages 3
unfolding chain_up chain under_at chain_below effective_along
low-of_low = refl

-- and the min by the mins
min-of_min : effective_min guarded 0 2 ≡ Pages 1
unfolding chain_up chain under_at chain_below effective_along
min-of_min = refl

-- a low is no min
min-not_low : effective_min (lows false 4 6 2) 0 2 ≡ Pages 0
unfolding chain_up chain under_at chain_below effective_along
min-not_low = refl

-- and a min no low
low-not_min : effective_low (set_to false (min_of 4) (min_of 6) (min_of 2)) 0 2 ≡ Pages 0
unfolding chain_up chain under_at chain_below effective_along
low-not_min = refl

-- ---- who is above its low

-- a group that uses just its effective low is within it
within : is_above_low (lows false 0 6 0) 1 2 ≡ false
unfolding chain_up chain under_at chain_below effective_along
within = refl

-- and one that uses more is not
above : is_above_low (lows false 0 5 0) 1 2 ≡ true
unfolding chain_up chain under_at chain_below effective_along
above = refl

-- the target's own low is not its protection
above-own : is_above_low (lows false 0 6 0) 2 2 ≡ true
unfolding chain_up chain under_at chain_below effective_along
above-own = refl

-- and protects nothing below it: /p/a uses more than its low of 5, whatever that of /p
above-own_child : is_above_low (lows false 9 5 0) 1 2 ≡ true
unfolding chain_up chain under_at chain_below effective_along
above-own_child = refl

-- a reclaim of the root takes from /p/a first as well, since /p has no low
above-parent : is_above_low (lows false 0 6 2) 0 2 ≡ true
unfolding chain_up chain under_at chain_below effective_along
above-parent = refl

-- where no low is set, every group with a page is above it
above-none : is_above_low (lows false 0 0 0) 1 3 ≡ true
unfolding chain_up chain under_at chain_below effective_along
above-none = refl

-- with a low of `max` a group is within it, whatever it uses
within-max : is_above_low (set_to false no_limits (record no_limits { low = Max }) no_limits) 1 2 ≡ false
unfolding chain_up chain under_at chain_below effective_along
within-max = refl

-- /p uses 8, which is its low, and so is within it
within-parent : is_above_low (lows false 8 5 2) 0 1 ≡ false
unfolding chain_up chain under_at chain_below effective_along
within-parent = refl

-- and yet /p/a is above its own, of 5
above-below_it : is_above_low (lows false 8 5 2) 0 2 ≡ true
unfolding chain_up chain under_at chain_below effective_along
above-below_it = refl

-- but with recursive protection it has the page that is left of /p's, too
within-recursive : is_above_low (lows true 8 5 2) 0 2 ≡ false
unfolding chain_up chain under_at chain_below effective_along
within-recursive = refl

-- ---- a state in which /p is full

-- pages 0 and 1 are /p/a's, and page 2 /p/b's. /p has a max of 3, and its children have these settings
abbrev pub full : Limits → Limits → State
full a b = record busy {
  limits = no_limits ∷ max_of 3 ∷ a ∷ b ∷ no_limits ∷ no_limits ∷ [];
  pages = Some (memory 2 (Held 0)) ∷ Some (memory 2 (Held 1)) ∷ Some (memory 3 (Held 2)) ∷ [];
  tasks = None ∷ Some (task_of 2 Live) ∷ Some (task_of 3 Live) ∷ [];
  page_tables = [] ∷ (shows 0 ∷ shows 1 ∷ []) ∷ (shows 2 ∷ []) ∷ [];
}

-- neither of them has a low
abbrev free : State
free = full no_limits no_limits

-- /p/a is within its low, and /p/b has none
abbrev pub one_within : State
one_within = full (low_of 2) no_limits

-- /p/b is, and /p/a has none
abbrev other_within : State
other_within = full no_limits (low_of 1)

-- both are within their lows
abbrev pub all_within : State
all_within = full (low_of 2) (low_of 1)

-- all pages are of the youngest generations, and this group was served last for /p
abbrev pub full_order : Option ℕ → Order
full_order last = record (ordered (young (listed_at 0 3 ∷ listed_at 1 3 ∷ [])) (young (listed_at 2 3 ∷ []))) { cursors = by_turns (None ∷ last ∷ None ∷ None ∷ None ∷ None ∷ []) }

-- ---- a group within its low, while another has an open page

-- for a reclaim of /p the pages of /p/a may be taken, but are not open
one-takeable : is_takeable one_within 1 (memory 2 (Held 0)) ≡ true
unfolding chain_up chain under_at chain_below effective_along
one-takeable = refl

one-not_open : is_open one_within 1 (memory 2 (Held 0)) ≡ false
unfolding chain_up chain under_at chain_below effective_along
one-not_open = refl

-- that of /p/b is
one-open : is_open one_within 1 (memory 3 (Held 2)) ≡ true
unfolding chain_up chain under_at chain_below effective_along
one-open = refl

-- and so there is one
one-has : has_open one_within 1 ≡ true
unfolding chain_up chain under_at chain_below effective_along
one-has = refl

-- with a page more than its low, /p/a has open pages, too
more-open : is_open (full (low_of 1) no_limits) 1 (memory 2 (Held 0)) ≡ true
unfolding chain_up chain under_at chain_below effective_along
more-open = refl

-- no page of /p/a is taken now
one-not_next : is_next one_within 1 (memory 2 (Held 0)) ≡ false
unfolding chain_up chain under_at chain_below effective_along
one-not_next = refl

-- but that of /p/b may be
one-next : is_next one_within 1 (memory 3 (Held 2)) ≡ true
unfolding chain_up chain under_at chain_below effective_along
one-next = refl

-- /p/a gives none
one-gives_none : gives one_within 1 2 ≡ false
unfolding chain_up chain under_at chain_below effective_along
one-gives_none = refl

-- and /p/b gives its own
one-gives : gives one_within 1 3 ≡ true
unfolding chain_up chain under_at chain_below effective_along
one-gives = refl

-- without a low, /p/a is the first to be served
free-serves : served free (full_order None) goal.Amount 1 ≡ Some 2
unfolding chain_up chain under_at chain_below effective_along preorder_to
free-serves = refl

-- with it, it is passed over
one-serves : served one_within (full_order None) goal.Amount 1 ≡ Some 3
unfolding chain_up chain under_at chain_below effective_along preorder_to
one-serves = refl

-- when it is /p/a's turn again, it is passed over again, and /p/b served once more
one-serves_again : served one_within (full_order (Some 3)) goal.Amount 1 ≡ Some 3
unfolding chain_up chain under_at chain_below effective_along preorder_to
one-serves_again = refl

-- without its low it would have been served then
free-serves_turn : served free (full_order (Some 3)) goal.Amount 1 ≡ Some 2
unfolding chain_up chain under_at chain_below effective_along preorder_to
free-serves_turn = refl

-- /p/b, whose turn comes behind /p/a, is passed over as well, and the pass goes round to /p/a
other-serves : served other_within (full_order (Some 2)) goal.Amount 1 ≡ Some 2
unfolding chain_up chain under_at chain_below effective_along preorder_to
other-serves = refl

-- and a page of /p/a is taken, with nothing counted
other-counts : counted_at_take other_within 1 2 ≡ other_within.counted
unfolding chain_up chain under_at chain_below effective_along
other-counts = refl

-- page 0 is /p's, and pages 1 and 2 are /p/a's. /p has a low of 3, which it uses, and /p/a one of 1
abbrev nested : State
nested = record free {
  limits = no_limits ∷ low_of 3 ∷ low_of 1 ∷ no_limits ∷ no_limits ∷ no_limits ∷ [];
  pages = Some (memory 1 (Held 0)) ∷ Some (memory 2 (Held 1)) ∷ Some (memory 2 (Held 2)) ∷ [];
}

-- a reclaim of the root passes over /p, and not over what is below it
nested-serves : served nested (full_order None) goal.Amount 0 ≡ Some 2
unfolding chain_up chain under_at chain_below effective_along preorder_to
nested-serves = refl

-- a page more is /p's: it is the first to give one then
nested-serves_more : served (record nested { pages = nested.pages ++ Some (memory 1 (Held 3)) ∷ [] }) (full_order None) goal.Amount 0 ≡ Some 1
unfolding chain_up chain under_at chain_below effective_along preorder_to
nested-serves_more = refl

-- /p/a has a low of 1, and its page 1 stands here
abbrev second_at : Residence → State
second_at residence = record free {
  limits = no_limits ∷ max_of 3 ∷ low_of 1 ∷ no_limits ∷ no_limits ∷ no_limits ∷ [];
  pages = Some (memory 2 (Held 0)) ∷ Some (memory 2 residence) ∷ Some (memory 3 (Held 2)) ∷ [];
}

-- while it is written out, it is of what /p/a uses: page 0 is open
second-going : is_open (second_at (Going 1 0 9)) 1 (memory 2 (Held 0)) ≡ true
unfolding chain_up chain under_at chain_below effective_along
second-going = refl

-- when it has left, /p/a is within its low
second-away : is_open (second_at (Away 0)) 1 (memory 2 (Held 0)) ≡ false
unfolding chain_up chain under_at chain_below effective_along
second-away = refl

-- ---- all are within their lows

-- no page is open then
all-none_open : has_open all_within 1 ≡ false
unfolding chain_up chain under_at chain_below effective_along
all-none_open = refl

-- and each may be taken: /p/a's
all-next : is_next all_within 1 (memory 2 (Held 0)) ≡ true
unfolding chain_up chain under_at chain_below effective_along
all-next = refl

-- and /p/b's
all-next_other : is_next all_within 1 (memory 3 (Held 2)) ≡ true
unfolding chain_up chain under_at chain_below effective_along
all-next_other = refl

-- but none that is in transfer
all-not_moving : is_next all_within 1 (memory 2 (Going 3 0 9)) ≡ false
all-not_moving = refl

-- nor one of a group that is not under the target
all-not_beside : is_next all_within 1 (memory 5 (Held 3)) ≡ false
unfolding chain_up chain under_at
all-not_beside = refl

-- they give pages in turn, as they do without lows: /p/a
all-serves : served all_within (full_order None) goal.Amount 1 ≡ Some 2
unfolding chain_up chain under_at chain_below effective_along preorder_to
all-serves = refl

-- /p/b
all-serves_next : served all_within (full_order (Some 2)) goal.Amount 1 ≡ Some 3
unfolding chain_up chain under_at chain_below effective_along preorder_to
all-serves_next = refl

-- and /p/a again
all-serves_again : served all_within (full_order (Some 3)) goal.Amount 1 ≡ Some 2
unfolding chain_up chain under_at chain_below effective_along preorder_to
all-serves_again = refl

-- a low makes nothing idle, and so no kill: there is something to be taken
all-takeable : has_takeable all_within 1 ≡ true
unfolding chain_up chain under_at chain_below effective_along
all-takeable = refl

all-not_idle : is_idle all_within 1 ≡ false
unfolding chain_up chain under_at chain_below effective_along
all-not_idle = refl

-- not even lows of `max`
all-max_not_idle : is_idle (full (record no_limits { low = Max }) (record no_limits { low = Max })) 1 ≡ false
unfolding chain_up chain under_at chain_below effective_along
all-max_not_idle = refl

-- ---- what is counted

-- by group, `low` so often at /p/a
abbrev pub lows_at_two : ℕ → List EventCounts
lows_at_two n = no_counts ∷ no_counts ∷ record no_counts { low = n } ∷ no_counts ∷ no_counts ∷ no_counts ∷ []

-- a page of /p/a, which is within its low: once there, and nowhere else
counts-once : counted_at_take all_within 1 2 ≡ lows_at_two 1
unfolding chain_up chain under_at chain_below effective_along
counts-once = refl

-- the next time once more
counts-again : counted_at_take (record all_within { counted = lows_at_two 1 }) 1 2 ≡ lows_at_two 2
unfolding chain_up chain under_at chain_below effective_along
counts-again = refl

-- a page of /p/b: at /p/b
counts-other : counted_at_take all_within 1 3 ≡ no_counts ∷ no_counts ∷ no_counts ∷ record no_counts { low = 1 } ∷ no_counts ∷ no_counts ∷ []
unfolding chain_up chain under_at chain_below effective_along
counts-other = refl

-- nothing is counted where the page is open, though a group was passed over
counts-open : counted_at_take one_within 1 3 ≡ one_within.counted
unfolding chain_up chain under_at chain_below effective_along
counts-open = refl

-- one by one: this one event
names-once : low_named all_within 1 2 ≡ count_of 2 key.Low ∷ []
unfolding chain_up chain under_at chain_below effective_along
names-once = refl

-- and none
names-open : low_named one_within 1 3 ≡ []
unfolding chain_up chain under_at chain_below effective_along
names-open = refl

-- /p tells of it, too, with all that is below it
tells-above : total all_within.tree (lows_at_two 1) 1 key.Low ≡ 1
unfolding chain_up chain under_at
tells-above = refl

-- but not as its own
tells-not_own : local (lows_at_two 1) 1 key.Low ≡ 0
tells-not_own = refl

-- ---- other targets

-- for a reclaim of the root all pages are open, since /p has no low
root-open : has_open all_within 0 ≡ true
unfolding chain_up chain under_at chain_below effective_along
root-open = refl

-- and nothing is counted
root-counts : counted_at_take all_within 0 2 ≡ all_within.counted
unfolding chain_up chain under_at chain_below effective_along
root-counts = refl

-- for one of /p/a its own are
own-open : is_open all_within 2 (memory 2 (Held 0)) ≡ true
unfolding chain_up chain under_at chain_below effective_along
own-open = refl

-- and nothing is counted
own-counts : counted_at_take all_within 2 2 ≡ all_within.counted
unfolding chain_up chain under_at chain_below effective_along
own-counts = refl

-- /p has a low of 9, and a page of its own
abbrev with_own : State
with_own = record all_within {
  limits = no_limits ∷ low_of 9 ∷ low_of 2 ∷ low_of 1 ∷ no_limits ∷ no_limits ∷ [];
  pages = Some (memory 2 (Held 0)) ∷ Some (memory 2 (Held 1)) ∷ Some (memory 3 (Held 2)) ∷ Some (memory 1 (Held 3)) ∷ [];
}

-- for a reclaim of /p that page alone is open
target-open : is_open with_own 1 (memory 1 (Held 3)) ≡ true
unfolding chain_up chain under_at chain_below effective_along
target-open = refl

-- so that /p gives it, though it is the turn of /p/a
target-serves : served with_own (full_order (Some 1)) goal.Amount 1 ≡ Some 1
unfolding chain_up chain under_at chain_below effective_along preorder_to
target-serves = refl

-- and nothing is counted
target-counts : counted_at_take with_own 1 1 ≡ with_own.counted
unfolding chain_up chain under_at chain_below effective_along
target-counts = refl

-- ---- what is not open for another reason

-- /p/a has a min of 2, and no low
abbrev within_min : State
within_min = full (min_of 2) (low_of 1)

-- it is above its low
min-above_low : is_above_low within_min 1 2 ≡ true
unfolding chain_up chain under_at chain_below effective_along
min-above_low = refl

-- and within its min, and so none of its pages is open
min-not_open : is_open within_min 1 (memory 2 (Held 0)) ≡ false
unfolding chain_up chain under_at chain_below effective_along
min-not_open = refl

-- nor is another
min-none_open : has_open within_min 1 ≡ false
unfolding chain_up chain under_at chain_below effective_along
min-none_open = refl

-- what its min protects is not taken
min-not_next : is_next within_min 1 (memory 2 (Held 0)) ≡ false
unfolding chain_up chain under_at chain_below effective_along
min-not_next = refl

-- so that /p/b gives a page, though it is within its low
min-serves : served within_min (full_order None) goal.Amount 1 ≡ Some 3
unfolding chain_up chain under_at chain_below effective_along preorder_to
min-serves = refl

-- which is counted
min-names : low_named within_min 1 3 ≡ count_of 3 key.Low ∷ []
unfolding chain_up chain under_at chain_below effective_along
min-names = refl

-- a group within both gives nothing
min-and_low : has_takeable (full (record no_limits { min = Pages 2; low = Pages 2 }) (min_of 1)) 1 ≡ false
unfolding chain_up chain under_at chain_below effective_along
min-and_low = refl

-- /p/a is within its low, and its page 0 is a file's; no swap block is free
abbrev swapless : State
swapless = record one_within { opening = record opening { swap = 0 }; pages = Some (of_file 2 false (Held 0)) ∷ Some (memory 2 (Held 1)) ∷ Some (memory 3 (Held 2)) ∷ [] }

-- the page of /p/b is not open, since it has nowhere to go
swapless-not_open : is_open swapless 1 (memory 3 (Held 2)) ≡ false
unfolding chain_up chain under_at chain_below effective_along
swapless-not_open = refl

-- so the file's page is taken
swapless-next : is_next swapless 1 (of_file 2 false (Held 0)) ≡ true
unfolding chain_up chain under_at chain_below effective_along
swapless-next = refl

-- which is counted
swapless-names : low_named swapless 1 2 ≡ count_of 2 key.Low ∷ []
unfolding chain_up chain under_at chain_below effective_along
swapless-names = refl

-- the page of /p/b is being written out
abbrev pub moving : State
moving = record one_within { pages = Some (memory 2 (Held 0)) ∷ Some (memory 2 (Held 1)) ∷ Some (memory 3 (Going 2 0 8)) ∷ [] }

-- it may come free, and yet is not open
moving-none_open : has_open moving 1 ≡ false
unfolding chain_up chain under_at chain_below effective_along
moving-none_open = refl

-- so that a page of /p/a is taken
moving-serves : served moving (full_order None) goal.Amount 1 ≡ Some 2
unfolding chain_up chain under_at chain_below effective_along preorder_to
moving-serves = refl

-- ---- settings

-- the low of a group, and not its min
guard-low : guard_of guard.Low (record { max = Pages 9; min = Pages 2; low = Pages 4 }) ≡ Pages 4
guard-low = refl

guard-min : guard_of guard.Min (record { max = Pages 9; min = Pages 2; low = Pages 4 }) ≡ Pages 2
guard-min = refl

-- a new group has none
guard-new : guard_of guard.Low no_limits ≡ Pages 0
guard-new = refl

-- /p/b has these limits, and /p/a none
abbrev limited : Amount → Amount → Amount → State
limited max min low = full no_limits (record { max = max; min = min; low = low })

-- a low is set, and the other settings stay
sets-low : with_setting (limited (Pages 9) (Pages 2) (Pages 4)) 3 (setting.Guard guard.Low (Pages 5)) ≡ limited (Pages 9) (Pages 2) (Pages 5)
sets-low = refl

-- a min
sets-min : with_setting (limited (Pages 9) (Pages 2) (Pages 4)) 3 (setting.Guard guard.Min (Pages 5)) ≡ limited (Pages 9) (Pages 5) (Pages 4)
sets-min = refl

-- and a max
sets-max : with_setting (limited (Pages 9) (Pages 2) (Pages 4)) 3 (setting.Max (Pages 5)) ≡ limited (Pages 5) (Pages 2) (Pages 4)
sets-max = refl

-- at /p/b alone: a low that is more than the max is one as well
sets-group : Step free (event.Set (group 3) (setting.Guard guard.Low Max)) reply.Ok (full no_limits (record no_limits { low = Max }))
sets-group = refl

-- the root has no `memory.low`
sets-not_root : refusal free (event.Set (group 0) (setting.Guard guard.Low (Pages 5))) ≡ Some NoEntry
sets-not_root = refl

-- ---- what is shown

-- `memory.low` is what was set
shows-low : shown_of guarded (query.Guard guard.Low (group 2)) ≡ shown.Amount (Pages 6)
shows-low = refl

-- and `memory.min` another number
shows-min : shown_of guarded (query.Guard guard.Min (group 2)) ≡ shown.Amount (Pages 1)
shows-min = refl

-- the effective low is asked for by target
shows-effective : shown_of guarded (query.Protection guard.Low (group 0) (group 2)) ≡ shown.Amount (Pages 3)
unfolding chain_up chain under_at chain_below effective_along
shows-effective = refl

-- here for a reclaim of /p
shows-effective_below : shown_of guarded (query.Protection guard.Low (group 1) (group 2)) ≡ shown.Amount (Pages 6)
unfolding chain_up chain under_at chain_below effective_along
shows-effective_below = refl

-- and so is the effective min
shows-effective_min : shown_of guarded (query.Protection guard.Min (group 0) (group 2)) ≡ shown.Amount (Pages 1)
unfolding chain_up chain under_at chain_below effective_along
shows-effective_min = refl

-- the root has no `memory.low` to be shown
shows-not_root : refusal guarded (event.Show (query.Guard guard.Low (group 0))) ≡ Some NoEntry
shows-not_root = refl

-- the target has no low from itself to be asked for
shows-not_own : refusal guarded (event.Show (query.Protection guard.Low (group 1) (group 1))) ≡ Some NoEntry
unfolding chain_up chain under_at
shows-not_own = refl

-- nor has a group beside it
shows-not_beside : refusal guarded (event.Show (query.Protection guard.Low (group 5) (group 2))) ≡ Some NoEntry
unfolding chain_up chain under_at
shows-not_beside = refl

-- `memory.events` of /p has what was counted at /p/a
shows-events : shown_of (record all_within { counted = lows_at_two 1 }) (query.Events (group 1)) ≡ shown.Events (record no_counts { low = 1 })
unfolding chain_up chain under_at
shows-events = refl

-- and `memory.events.local` has not
shows-events_local : shown_of (record all_within { counted = lows_at_two 1 }) (query.EventsLocal (group 1)) ≡ shown.Events no_counts
shows-events_local = refl
