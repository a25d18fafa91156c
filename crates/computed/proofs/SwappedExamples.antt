-- Examples: a page is on its swap block, its group is removed, and a task of another group reads it in. By our own placement the parent of the removed group is charged, by Linux's the reader's group.
use Rattle.std.proofs.Common.{◌≡◌, ◌≢◌, ℕ, zero, suc, List, [], ◌∷◌, Option, Some, None, refl, sym, ap, ◌∙◌, arith}
use Rattle.std.specs.Prelude.{option_map}
use Rattle.machine.specs.declared.config.Placement.{Placement}
use Rattle.machine.specs.declared.config.Placement.TheVariants.{Own, Linux}
use Rattle.machine.specs.declared.event.Op.TheVariants.{Read}
use Rattle.machine.specs.declared.event.Place.TheVariants.{Virtual}
use Rattle.machine.specs.declared.event.Event.{Event}
use Rattle.machine.specs.declared.event.Event.TheVariants as event
use Rattle.machine.specs.declared.record.Life.TheVariants.{Live}
use Rattle.machine.specs.declared.reply.Reply.{Reply}
use Rattle.machine.specs.declared.reply.Reply.TheVariants as reply
use Rattle.machine.specs.Slots.{at}
use Rattle.machine.specs.Tree.{chain_up, chain, under_at, without_group}
use Rattle.machine.specs.Pages.{Residence, Held, Coming, Going, Away, Page, Pages, page_at}
use Rattle.machine.specs.Counts.{no_limits, over_at}
use Rattle.machine.specs.Tasks.{task_of}
use Rattle.machine.specs.State.{State, usage}
use Rattle.machine.specs.Access.{NeedsSwapIn, meets, charges}
use Rattle.machine.specs.Step.{regrouped, Step}
use Rattle.machine.specs.Call.{need}
use Rattle.machine.proofs.Values.{some_inj}
use Rattle.computed.proofs.ExampleStates.{group, task, ticket, shows, tree, memory, max_of, opening, busy}

-- a page of /p in frame 0, and two more with these groups and residences
abbrev pages_so : Page → Page → Pages
pages_so one two = Some (memory 1 (Held 0)) ∷ Some one ∷ Some two ∷ []

-- page 1 of /p/b is on its block, and page 2 of /p/b is being written out. /p has two pages in frames and a max of 2. Task 2, which shows all three pages, has moved to /r
abbrev left_by : Placement → State
left_by placement = record busy {
  opening = record opening { placement = placement };
  limits = no_limits ∷ max_of 2 ∷ no_limits ∷ no_limits ∷ no_limits ∷ no_limits ∷ [];
  pages = pages_so (memory 3 (Away 3)) (memory 3 (Going 1 2 8));
  tasks = None ∷ Some (task_of 2 Live) ∷ Some (task_of 5 Live) ∷ [];
  page_tables = [] ∷ [] ∷ (shows 0 ∷ shows 1 ∷ shows 2 ∷ []) ∷ [];
}

-- ---- the removal of /p/b

abbrev removal : Event
removal = event.Rmdir (group 3)

-- afterwards page 1 is of this group, and page 2 of /p
abbrev removed_by : Placement → ℕ → State
removed_by placement g = record (left_by placement) { tree = without_group tree 3; pages = pages_so (memory g (Away 3)) (memory 1 (Going 1 2 8)) }

-- by our own placement page 1 is of /p too
removes-own : Step (left_by Own) removal reply.Ok (removed_by Own 1)
removes-own = record { parent = 1; below = refl; pages = pages; state = refl }
  where
    pages : (p : ℕ) → page_at (removed_by Own 1).pages p ≡ option_map (regrouped Own 3 1) (page_at (left_by Own).pages p)
    pages zero = refl
    pages (suc zero) = refl
    pages (suc (suc zero)) = refl
    pages (suc (suc (suc p))) = refl

-- by Linux's it is the root's
removes-linux : Step (left_by Linux) removal reply.Ok (removed_by Linux 0)
removes-linux = record { parent = 1; below = refl; pages = pages; state = refl }
  where
    pages : (p : ℕ) → page_at (removed_by Linux 0).pages p ≡ option_map (regrouped Linux 3 1) (page_at (left_by Linux).pages p)
    pages zero = refl
    pages (suc zero) = refl
    pages (suc (suc zero)) = refl
    pages (suc (suc (suc p))) = refl

becomes : (placement : Placement) (p : ℕ) (new : State) → Step (left_by placement) removal reply.Ok new → page_at new.pages p ≡ option_map (regrouped placement 3 1) (page_at (left_by placement).pages p)
becomes placement p new step = step.pages p ∙ ap (λ (parent : ℕ). option_map (regrouped placement 3 parent) (page_at (left_by placement).pages p)) (some_inj (sym step.below))

-- and it becomes nobody else's: not /p's
becomes-root : (new : State) → Step (left_by Linux) removal reply.Ok new → page_at new.pages 1 ≡ Some (memory 0 (Away 3))
becomes-root new step = becomes Linux 1 new step

-- a page that is still in transfer is /p's
becomes-parents : (new : State) → Step (left_by Linux) removal reply.Ok new → page_at new.pages 2 ≡ Some (memory 1 (Going 1 2 8))
becomes-parents new step = becomes Linux 2 new step

-- ---- task 2 of /r reads page 1

abbrev reads : Event
reads = event.Access (task 2) (Virtual 1 0) Read

-- by our own placement the charge is to /p, which is full
reads-own : (answer : Reply) (new : State) → Step (removed_by Own 1) reads answer new → answer ≡ reply.Over (group 1)
unfolding chain_up chain under_at over_at
reads-own answer new step = step.0

-- by Linux's it is to /r, and the page comes
abbrev fetched : State
fetched = record (removed_by Linux 0) { pages = pages_so (memory 5 (Coming 2 3 9)) (memory 1 (Going 1 2 8)) }

reads-linux : Step (removed_by Linux 0) reads (reply.Fetch (ticket 9)) fetched
unfolding chain_up chain under_at over_at
reads-linux = record { frame = 2; ticket = 9; frame_free = record { in_range = omega arith; unused = refl }; ticket_free = refl; placed = record { changed = refl; others = others }; answers = refl; state = refl }
  where
    others : (m : ℕ) → m ≢ 1 → at fetched.pages m ≡ at (removed_by Linux 0).pages m
    others zero other = refl
    others (suc zero) other = absurd (other refl)
    others (suc (suc m)) other = refl

-- and it becomes no other group's
reads-readers : (answer : Reply) (new : State) → Step (removed_by Linux 0) reads answer new → (r : Residence) × (page_at new.pages 1 ≡ Some (memory 5 r))
unfolding chain_up chain under_at over_at
reads-readers answer new step = (Coming step.frame 3 step.ticket, step.placed.changed)

-- /r has a page then, and /p as many as before
counts-fetched : (usage fetched 5 ≡ 1) × (usage fetched 1 ≡ 2)
unfolding chain_up chain under_at
counts-fetched = (refl, refl)

-- a read-in needs an entry for its end as well, and a charge that is refused does not
needs-linux : need (removed_by Linux 0) reads ≡ 2
unfolding chain_up chain under_at over_at
needs-linux = refl

needs-own : need (removed_by Own 1) reads ≡ 1
unfolding chain_up chain under_at over_at
needs-own = refl

-- ---- other pages

-- page 2 has been written out since the removal: by Linux's placement, too, it is charged to /p
charges-later : charges Linux (meets (record (removed_by Linux 0) { pages = pages_so (memory 0 (Away 3)) (memory 1 (Away 2)) }) 2 (Virtual 2 0) Read) 5 ≡ Some 1
charges-later = refl

-- a page of a group that is there is charged to that group
charges-live : charges Linux (meets (left_by Linux) 2 (Virtual 1 0) Read) 5 ≡ Some 3
charges-live = refl

-- a page of the root is charged to its reader's group, and by our own placement to the root
charges-root : (charges Linux (NeedsSwapIn 1 (memory 0 (Away 3)) 3) 5 ≡ Some 5) × (charges Own (NeedsSwapIn 1 (memory 0 (Away 3)) 3) 5 ≡ Some 0)
charges-root = (refl, refl)

-- a reader of the root charges the root
charges-by_root : charges Linux (NeedsSwapIn 1 (memory 0 (Away 3)) 3) 0 ≡ Some 0
charges-by_root = refl
