-- In which order a reclaim asks the groups for a page (mm/vmscan.c: shrink_node_memcgs; mm/memcontrol.c: mem_cgroup_iter).
use Rattle.std.specs.Prelude.{ℕ, ◌+◌, ◌-◌, ◌/◌, ◌==◌, ◌&&◌, nat_lt, max, min, Bool, true, false, if◌then◌else◌, List, [], ◌∷◌, ◌++◌, drop, take, find, position, slice_index_or, Option, Some, None}
use Rattle.std.specs.List.{list_any}
use Rattle.std.specs.Option.{option_or}
use Rattle.machine.specs.declared.config.Placement.{Placement}
use Rattle.machine.specs.declared.config.Placement.TheVariants.{Own, Linux}
use Rattle.machine.specs.declared.event.Goal.{Goal}
use Rattle.machine.specs.declared.event.Goal.TheVariants.{OnePage, Amount}
use Rattle.machine.specs.Tree.{Node, is_live, under, preorder}

-- the list from behind a place on and round to it, or from the front where there is no such place
abbrev pub round_from : List ℕ → Option ℕ → List ℕ
round_from order None = order
round_from order (Some k) = drop (k + 1) order ++ take (k + 1) order

abbrev pub place_in : List ℕ → Option ℕ → Option ℕ
place_in order None = None
place_in order (Some g) = position (λ a. a == g) order

-- the groups behind a place, and none where there is no such place
abbrev pub behind_place : List ℕ → Option ℕ → List ℕ
behind_place order None = []
behind_place order (Some k) = drop (k + 1) order

-- whose turn it is to give pages to a target: the group that was served last for it; how many pages more it gives in its turn; and the size of which a group gives a page in this round
pub record Cursor : Type 0 where
  pub group : Option ℕ
  pub left : ℕ
  pub unit : ℕ

-- no group was served
abbrev pub no_cursor : Cursor
no_cursor = record { group = None; left = 0; unit = 0 }

-- the group gave one page, and the turn is the next one's
abbrev pub one_page_of : ℕ → Cursor
one_page_of g = record { group = Some g; left = 0; unit = 0 }

-- by the number of a reclaim's target, whose turn it is. (Excludes one cursor for all targets.)
abbrev pub cursor_at : List Cursor → ℕ → Cursor
cursor_at cursors target = slice_index_or cursors target no_cursor

-- a reclaim takes of each group a part: by Linux's placement, where it wants an amount. Else it takes a page of each. (Excludes parts at a limit, and for a frame.)
abbrev pub takes_parts : Placement → Goal → Bool
takes_parts Linux Amount = true
takes_parts placement goal = false

-- the group of this number, if it is one of those that a reclaim of the target asks
abbrev pub asked_of : List Node → ℕ → Option ℕ → List ℕ
asked_of tree target None = []
asked_of tree target (Some g) = if is_live tree g && under tree target g then g ∷ [] else []

-- the group whose turn goes on: where parts are taken, the one that was served last, while pages are left of its turn
abbrev pub in_turn : Bool → List Node → ℕ → Cursor → List ℕ
in_turn parts tree target cursor = if parts && nat_lt 0 cursor.left then asked_of tree target cursor.group else []

-- the groups as a reclaim of the target asks them: first the one whose turn goes on; then each before those below it, children in order of making, beginning behind the group that was served last.
-- A group that is removed is none of them, and so stands for none served
abbrev pub asking_order : Bool → List Node → ℕ → Cursor → List ℕ
asking_order parts tree target cursor = in_turn parts tree target cursor ++ round_from (preorder tree target) (place_in (preorder tree target) cursor.group)

-- the group that gives a page: the first in order that has one to give. (Excludes a pass that begins at the target each time, and one that ends before it is round.)
abbrev pub served_by : Bool → List Node → (ℕ → Bool) → ℕ → Cursor → Option ℕ
served_by parts tree gives target cursor = find gives (asking_order parts tree target cursor)

-- a reclaim asks the groups with an old page of a file before all others: by Linux's placement, where it wants one page, and where the root is its target. (Excludes idle memory that is taken
-- while a file is scanned.)
abbrev pub heeds_age : Placement → Goal → ℕ → Bool
heeds_age Own goal target = false
heeds_age Linux OnePage target = true
heeds_age Linux Amount target = target == 0

-- where age is heeded, the first in order that has an old one to give; where none has, and where age is not heeded, the first that has any. Both begin behind the group that was served last
abbrev pub served_first : Bool → Bool → List Node → (ℕ → Bool) → (ℕ → Bool) → ℕ → Cursor → Option ℕ
served_first false parts tree gives_old gives target cursor = served_by parts tree gives target cursor
served_first true parts tree gives_old gives target cursor = option_or (served_by parts tree gives_old target cursor) (served_by parts tree gives target cursor)

-- ---- how many pages a turn has

-- the group stands behind the one that was served last, in the order from the target on
abbrev pub is_behind : List Node → ℕ → Option ℕ → ℕ → Bool
is_behind tree target last g = list_any (λ a. a == g) (behind_place (preorder tree target) (place_in (preorder tree target) last))

-- the least size of those of the groups that have a page to give, or this number if that is less
abbrev pub least_of : (ℕ → Bool) → (ℕ → ℕ) → List ℕ → ℕ → ℕ
least_of gives size [] n = n
least_of gives size (g ∷ gs) n = least_of gives size gs (if gives g then min (size g) n else n)

-- and the greatest
abbrev pub greatest_of : (ℕ → Bool) → (ℕ → ℕ) → List ℕ → ℕ → ℕ
greatest_of gives size [] n = n
greatest_of gives size (g ∷ gs) n = greatest_of gives size gs (if gives g then max (size g) n else n)

-- the size of which a group gives a page: that of the least group, and at least a sixteenth of the greatest. (Excludes a small group for which others give all that they have in one turn.)
abbrev pub unit_for : ℕ → ℕ → ℕ
unit_for least greatest = max 1 (max least (greatest / 16))

-- the unit of the round. A round ends where the walk comes round to the target, and the next one begins with the sizes of then. (Excludes a unit that outlives its round.)
abbrev pub round_unit : List Node → (ℕ → Bool) → (ℕ → ℕ) → ℕ → Cursor → ℕ → ℕ
round_unit tree gives size target cursor g =
    if nat_lt 0 cursor.unit && is_behind tree target cursor.group g then cursor.unit
    else unit_for (least_of gives size (preorder tree target) (size g)) (greatest_of gives size (preorder tree target) (size g))

-- how many pages more a group of this size gives in its turn, after the first: in all as many as it has units, to the nearest, and a fourth of its pages at most, rounded up. (memory_reclaim:
-- a fourth of what is left)
abbrev pub more_in_turn : ℕ → ℕ → ℕ
more_in_turn size unit = min ((size - (unit - unit / 2)) / unit) ((size - 1) / 4)

-- the turn of a group begins
abbrev pub new_turn : ℕ → ℕ → ℕ → Cursor
new_turn g size unit = record { group = Some g; left = more_in_turn size unit; unit = unit }

-- the group gives a page: its turn goes on, or begins. (Excludes a turn that does not end, and one that begins with each page.)
abbrev pub cursor_after : Bool → List Node → (ℕ → Bool) → (ℕ → ℕ) → ℕ → Cursor → ℕ → Cursor
cursor_after false tree gives size target cursor g = one_page_of g
cursor_after true tree gives size target cursor g =
    if list_any (λ a. a == g) (in_turn true tree target cursor) then record { group = Some g; left = cursor.left - 1; unit = cursor.unit }
    else new_turn g (size g) (round_unit tree gives size target cursor g)
