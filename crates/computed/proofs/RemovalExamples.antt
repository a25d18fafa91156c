-- Examples: groups that are removed, what becomes of their pages and lists, and later groups of their paths. What does not come of a removal is shown not to.
use Rattle.std.proofs.Common.{◌≡◌, ◌≢◌, ℕ, zero, suc, ◌<◌, ◌==◌, ◌&&◌, ◌++◌, Bool, true, false, List, [], ◌∷◌, length, Option, Some, None, refl, sym, ap, ◌∙◌, arith}
use Rattle.std.specs.Prelude.{codes, option_map}
use Rattle.machine.specs.declared.config.Placement.TheVariants.{Own}
use Rattle.machine.specs.declared.event.Goal.TheVariants.{Amount}
use Rattle.machine.specs.declared.event.Cause.TheVariants as cause
use Rattle.machine.specs.declared.event.Op.TheVariants.{Read}
use Rattle.machine.specs.declared.event.Place.TheVariants.{Virtual}
use Rattle.machine.specs.declared.event.Query.TheVariants as query
use Rattle.machine.specs.declared.event.Setting.TheVariants as setting
use Rattle.machine.specs.declared.event.Event.{Event}
use Rattle.machine.specs.declared.event.Event.TheVariants as event
use Rattle.machine.specs.declared.amount.Amount.TheVariants as amount
use Rattle.machine.specs.declared.record.Key.TheVariants as key
use Rattle.machine.specs.declared.record.Life.TheVariants.{Live, Exited, Killed}
use Rattle.machine.specs.declared.record.OomGroup.TheVariants.{Single}
use Rattle.machine.specs.declared.reply.Reply.{Reply}
use Rattle.machine.specs.declared.reply.Reply.TheVariants as reply
use Rattle.machine.specs.declared.reply.Shown.TheVariants as shown
use Rattle.machine.specs.declared.refusal.Refusal.TheVariants.{NoEntry, Busy}
use Rattle.machine.specs.declared.refusal.Refusal.TheVariants as why
use Rattle.machine.specs.Slots.{at, count_there}
use Rattle.machine.specs.Tree.{Node, root, node_at, is_live, IsTree, chain_up, chain, under_at, chain_below, children, find_group, preorder_to}
use Rattle.machine.specs.Pages.{Held, Coming, Going, Away, Page, Pages, page_at, has_frame, is_number, is_held_in}
use Rattle.machine.specs.Counts.{no_limits, limits_at, local, total, over_at, no_counts}
use Rattle.machine.specs.Tasks.{Tasks, task_of}
use Rattle.machine.specs.Protection.{effective_along}
use Rattle.machine.specs.Order.{Cursor, no_cursor, one_page_of, asking_order}
use Rattle.machine.specs.State.{State, first_state, usage}
use Rattle.machine.specs.Access.{meets, charges}
use Rattle.machine.specs.Reclaim.{stands}
use Rattle.machine.specs.Refusals.{refusal}
use Rattle.machine.specs.Step.{regrouped, shown_of, Step}
use Rattle.machine.specs.Generations.{Gens, new_gens, taken_over}
use Rattle.machine.specs.Aging.{is_marked}
use Rattle.machine.specs.Lists.{Order, served, is_fresh, Orders, SecondYoungest}
use Rattle.machine.specs.Call.{Past, is_full_for, Called, grows}
use Rattle.machine.proofs.Values.{some_inj, never_some, unlike}
use Rattle.page_lists.proofs.RegroupedLemmas.{usage-removed}
use Rattle.computed.proofs.ExampleStates.{group, task, ticket, shows, below, tree, memory, of_file, max_of, single, opening, busy, listed_at, young, searched, by_turns, none_served}
use Rattle.computed.proofs.HeldExamples.{page_standing, unlike_number, unlike_mark, unlike_cursor, set_is_not_clear}
use Rattle.computed.proofs.CallExamples.{caller, past, after, not_new, other_number, stay_unmarked, stay_unhit}

abbrev rmdir : ℕ → Event
rmdir g = event.Rmdir (group g)

abbrev mkdir : List ℕ → Event
mkdir path = event.Mkdir path

-- ---- which groups are not removed

-- a number that no group has
rmdir-no_group : refusal busy (rmdir 6) ≡ Some NoEntry
rmdir-no_group = refl

-- a group that was removed before
rmdir-removed : refusal busy (rmdir 4) ≡ Some NoEntry
rmdir-removed = refl

-- the root, also where it is alone
rmdir-root : refusal (first_state opening) (rmdir 0) ≡ Some Busy
rmdir-root = refl

-- a group with children
rmdir-children : refusal busy (rmdir 1) ≡ Some Busy
rmdir-children = refl

-- a group with a live task
rmdir-task : refusal busy (rmdir 2) ≡ Some Busy
rmdir-task = refl

-- the busy state, with these tasks
abbrev with_tasks : Tasks → State
with_tasks tasks = record busy { tasks = tasks }

-- tasks that exited keep no group
rmdir-exited : refusal (with_tasks (None ∷ Some (task_of 3 Exited) ∷ [])) (rmdir 3) ≡ None
rmdir-exited = refl

-- nor do those that were killed
rmdir-killed : refusal (with_tasks (None ∷ Some (task_of 3 Killed) ∷ [])) (rmdir 3) ≡ None
rmdir-killed = refl

-- but one live task among them does
rmdir-one_live : refusal (with_tasks (None ∷ Some (task_of 3 Killed) ∷ Some (task_of 3 Exited) ∷ Some (task_of 3 Live) ∷ [])) (rmdir 3) ≡ Some Busy
rmdir-one_live = refl

-- a group with neither is removed
rmdir-empty : refusal busy (rmdir 5) ≡ None
rmdir-empty = refl

-- and one whose only child was removed
rmdir-childless : refusal (record busy { tree = root ∷ below 0 (codes "/p") ∷ record (below 1 (codes "/p/a")) { live = false } ∷ []; tasks = [] }) (rmdir 1) ≡ None
rmdir-childless = refl

-- ---- a group that is left to its pages: task 2 has moved from /p/b to /r

-- page 0 is of /p/a. Of /p/b pages 1 and 9 are held, page 2 is coming, page 3 is going, and page 4 is on its block. Pages 5 to 8 are of /p itself
abbrev left_pages : Pages
left_pages =
    Some (memory 2 (Held 0)) ∷ Some (memory 3 (Held 1)) ∷ Some (memory 3 (Coming 2 1 7)) ∷ Some (memory 3 (Going 3 2 8)) ∷ Some (memory 3 (Away 3)) ∷ Some (memory 1 (Held 4)) ∷ Some (memory 1 (Held 5))
    ∷ Some (memory 1 (Held 6)) ∷ Some (memory 1 (Held 7)) ∷ Some (memory 3 (Held 8)) ∷ []

-- /p and /p/b are full. At /p/b `max` and `oom` were counted, and at /p/a `max`
abbrev left : State
left = record {
  opening = record opening { frames = 9 };
  tree = tree;
  limits = no_limits ∷ max_of 9 ∷ no_limits ∷ max_of 4 ∷ no_limits ∷ no_limits ∷ [];
  flags = single 6;
  pages = left_pages;
  tasks = None ∷ Some (task_of 2 Live) ∷ Some (task_of 5 Live) ∷ Some (task_of 3 Killed) ∷ Some (task_of 3 Exited) ∷ [];
  page_tables = [] ∷ (shows 0 ∷ []) ∷ (None ∷ shows 1 ∷ shows 2 ∷ shows 3 ∷ shows 4 ∷ shows 5 ∷ shows 6 ∷ shows 7 ∷ shows 8 ∷ shows 9 ∷ []) ∷ [];
  counted = no_counts ∷ no_counts ∷ record no_counts { max = 1 } ∷ record no_counts { max = 1; oom = 1 } ∷ no_counts ∷ no_counts ∷ [];
}

-- its pages keep no group
rmdir-pages : refusal left (rmdir 3) ≡ None
rmdir-pages = refl

-- all its pages are of /p, and the others of whom they were
abbrev removed_pages : Pages
removed_pages =
    Some (memory 2 (Held 0)) ∷ Some (memory 1 (Held 1)) ∷ Some (memory 1 (Coming 2 1 7)) ∷ Some (memory 1 (Going 3 2 8)) ∷ Some (memory 1 (Away 3)) ∷ Some (memory 1 (Held 4)) ∷ Some (memory 1 (Held 5))
    ∷ Some (memory 1 (Held 6)) ∷ Some (memory 1 (Held 7)) ∷ Some (memory 1 (Held 8)) ∷ []

-- /p/b is there no more, and its parent and path stay known
abbrev removed_tree : List Node
removed_tree =
    root ∷ below 0 (codes "/p") ∷ below 1 (codes "/p/a") ∷ record { parent = Some 1; path = codes "/p/b"; live = false } ∷ record { parent = Some 0; path = codes "/q"; live = false } ∷ below 0 (codes "/r") ∷ []

abbrev removed : State
removed = record left { tree = removed_tree; pages = removed_pages }

-- the removal leads there
removes : Step left (rmdir 3) reply.Ok removed
removes = record { parent = 1; below = refl; pages = pages; state = refl }
  where
    pages : (p : ℕ) → page_at removed_pages p ≡ option_map (regrouped Own 3 1) (page_at left_pages p)
    pages zero = refl
    pages (suc zero) = refl
    pages (suc (suc zero)) = refl
    pages (suc (suc (suc zero))) = refl
    pages (suc (suc (suc (suc zero)))) = refl
    pages (suc (suc (suc (suc (suc zero))))) = refl
    pages (suc (suc (suc (suc (suc (suc zero)))))) = refl
    pages (suc (suc (suc (suc (suc (suc (suc zero))))))) = refl
    pages (suc (suc (suc (suc (suc (suc (suc (suc zero)))))))) = refl
    pages (suc (suc (suc (suc (suc (suc (suc (suc (suc zero))))))))) = refl
    pages (suc (suc (suc (suc (suc (suc (suc (suc (suc (suc p)))))))))) = refl

-- a page keeps all else: a file's page that was written to is still to be written out
removes-dirty : regrouped Own 3 1 (of_file 3 true (Held 1)) ≡ of_file 1 true (Held 1)
removes-dirty = refl

-- ---- whatever comes after a removal

-- the group of a page that is there
abbrev of_group : Option Page → ℕ
of_group None = 99
of_group (Some page) = page.group

-- each page is what it was, and of the parent where it was of the group
becomes : (p : ℕ) (new : State) → Step left (rmdir 3) reply.Ok new → page_at new.pages p ≡ option_map (regrouped Own 3 1) (page_at left_pages p)
becomes p new step = step.pages p ∙ ap (λ (parent : ℕ). option_map (regrouped Own 3 parent) (page_at left_pages p)) (some_inj (sym step.below))

-- no page is given back to the pool: not one that is held
removes-held_stays : (new : State) → page_at new.pages 1 ≡ None → Step left (rmdir 3) reply.Ok new → ⊥
removes-held_stays new gone step = never_some (page_at new.pages 1) gone (becomes 1 new step)

-- not one that is on its block
removes-away_stays : (new : State) → page_at new.pages 4 ≡ None → Step left (rmdir 3) reply.Ok new → ⊥
removes-away_stays new gone step = never_some (page_at new.pages 4) gone (becomes 4 new step)

-- where a page is of the parent, it is of no other group
abbrev NotOf : ℕ → ℕ → Type 0
NotOf p g = (new : State) → of_group (page_at new.pages p) ≡ g → Step left (rmdir 3) reply.Ok new → ⊥

parents-alone : (p g : ℕ) → of_group (option_map (regrouped Own 3 1) (page_at left_pages p)) ≡ 1 → g ≢ 1 → NotOf p g
parents-alone p g parents other new is step = other (sym is ∙ ap of_group (becomes p new step) ∙ parents)

-- no page is left behind: none that is held
removes-held_too : NotOf 1 3
removes-held_too = parents-alone 1 3 refl (λ e. omega (arith, e))

-- none that is being read in
removes-coming_too : NotOf 2 3
removes-coming_too = parents-alone 2 3 refl (λ e. omega (arith, e))

-- none that is being written out
removes-going_too : NotOf 3 3
removes-going_too = parents-alone 3 3 refl (λ e. omega (arith, e))

-- and none that is on its block
removes-away_too : NotOf 4 3
removes-away_too = parents-alone 4 3 refl (λ e. omega (arith, e))

-- no page goes to the root, which is above the parent
removes-not_to_root : NotOf 1 0
removes-not_to_root = parents-alone 1 0 refl (λ e. omega (arith, e))

-- nor to the group where its task is now
removes-not_to_task : NotOf 1 5
removes-not_to_task = parents-alone 1 5 refl (λ e. omega (arith, e))

-- the page of another child stays that child's
removes-not_other : (new : State) → Step left (rmdir 3) reply.Ok new → page_at new.pages 0 ≡ Some (memory 2 (Held 0))
removes-not_other new step = becomes 0 new step

-- a page in transfer stays in it, under its ticket
removes-not_ended : (new : State) → Step left (rmdir 3) reply.Ok new → page_at new.pages 3 ≡ Some (memory 1 (Going 3 2 8))
removes-not_ended new step = becomes 3 new step

-- the group is there no more
removes-not_live : (new : State) → is_live new.tree 3 ≡ true → Step left (rmdir 3) reply.Ok new → ⊥
removes-not_live new live step = unlike (is_live new.tree 3) live (ap (λ (s : State). is_live s.tree 3) step.state)

-- its parent stays known, which what is counted at it asks for
removes-parent : (new : State) → Step left (rmdir 3) reply.Ok new → (node_at new.tree 3).parent ≡ Some 1
removes-parent new step = ap (λ (s : State). (node_at s.tree 3).parent) step.state

-- and its path
removes-path : (new : State) → Step left (rmdir 3) reply.Ok new → (node_at new.tree 3).path ≡ codes "/p/b"
removes-path new step = ap (λ (s : State). (node_at s.tree 3).path) step.state

-- its number stays in the list, so that no later group gets it
removes-number : (new : State) → Step left (rmdir 3) reply.Ok new → length new.tree ≡ 6
removes-number new step = ap (λ (s : State). length s.tree) step.state

-- the other groups are there
removes-others : (new : State) → Step left (rmdir 3) reply.Ok new → is_live new.tree 2 ≡ true
removes-others new step = ap (λ (s : State). is_live s.tree 2) step.state

-- the limits stay as they were, so that each stands at its group's number
removes-limits : (new : State) → Step left (rmdir 3) reply.Ok new → new.limits ≡ left.limits
removes-limits new step = ap (λ (s : State). s.limits) step.state

-- and what is counted stays counted
removes-counted : (new : State) → Step left (rmdir 3) reply.Ok new → new.counted ≡ left.counted
removes-counted new step = ap (λ (s : State). s.counted) step.state

-- the tasks that ended stay, so that no number comes twice
removes-tasks : (new : State) → Step left (rmdir 3) reply.Ok new → new.tasks ≡ left.tasks
removes-tasks new step = ap (λ (s : State). s.tasks) step.state

-- every place shows what it showed
removes-tables : (new : State) → Step left (rmdir 3) reply.Ok new → new.page_tables ≡ left.page_tables
removes-tables new step = ap (λ (s : State). s.page_tables) step.state

-- ---- use

falls : IsTree left.tree
falls = record { falls = hangs }
  where
    hangs : (g p : ℕ) → (node_at tree g).parent ≡ Some p → p < g
    hangs zero p e = never_some {P = p < 0} {T = ℕ} None refl e
    hangs (suc zero) p e = let same : 0 ≡ p = some_inj e in omega (arith, same)
    hangs (suc (suc zero)) p e = let same : 1 ≡ p = some_inj e in omega (arith, same)
    hangs (suc (suc (suc zero))) p e = let same : 1 ≡ p = some_inj e in omega (arith, same)
    hangs (suc (suc (suc (suc zero)))) p e = let same : 0 ≡ p = some_inj e in omega (arith, same)
    hangs (suc (suc (suc (suc (suc zero))))) p e = let same : 0 ≡ p = some_inj e in omega (arith, same)
    hangs (suc (suc (suc (suc (suc (suc g)))))) p e = never_some {P = p < suc (suc (suc (suc (suc (suc g)))))} {T = ℕ} None refl e

-- before the removal /p has nine pages, those of /p/b among them
uses-before : usage left 1 ≡ 9
unfolding chain_up chain under_at
uses-before = refl

-- and so it has after it, whatever comes: no ancestor's count is lowered
uses-parent : (new : State) → Step left (rmdir 3) reply.Ok new → usage new 1 ≡ 9
unfolding chain_up chain under_at
uses-parent new step = usage-removed left new 3 falls step 1 (λ e. omega (arith, e))

-- nor is the root's
uses-root : (new : State) → Step left (rmdir 3) reply.Ok new → usage new 0 ≡ 9
unfolding chain_up chain under_at
uses-root new step = usage-removed left new 3 falls step 0 (λ e. omega (arith, e))

-- a sibling's is what it was
uses-sibling : (new : State) → Step left (rmdir 3) reply.Ok new → usage new 2 ≡ 1
unfolding chain_up chain under_at
uses-sibling new step = usage-removed left new 3 falls step 2 (λ e. omega (arith, e))

-- the removed group has none
uses-removed : usage removed 3 ≡ 0
unfolding chain_up chain under_at
uses-removed = refl

-- the pages with frames that are of a group itself
abbrev own : State → ℕ → ℕ
own s g = count_there (λ (page : Page). has_frame page && (page.group == g)) s.pages

-- four pages of /p itself
owns-before : own left 1 ≡ 4
owns-before = refl

-- are eight, with the four of /p/b that have frames
owns-after : own removed 1 ≡ 8
owns-after = refl

-- so that a page that is read in from its block is charged to /p, where that is full, and not to the group of the task that wants it
reads_in-charges : charges Own (meets removed 2 (Virtual 4 0) Read) 5 ≡ Some 1
reads_in-charges = refl

reads_in-over : (answer : Reply) (new : State) → Step (record removed { opening = record opening { frames = 10 } }) (event.Access (task 2) (Virtual 4 0) Read) answer new → answer ≡ reply.Over (group 1)
unfolding chain_up chain under_at over_at
reads_in-over answer new step = step.0

-- ---- what was counted

-- `max` at /p/b counts for /p and above still
counts-parent : total removed.tree removed.counted 1 key.Max ≡ total left.tree left.counted 1 key.Max
unfolding chain_up chain under_at
counts-parent = refl

-- twice with that of /p/a
counts-twice : total removed.tree removed.counted 1 key.Max ≡ 2
unfolding chain_up chain under_at
counts-twice = refl

-- and so for the root
counts-root : total removed.tree removed.counted 0 key.Oom ≡ 1
unfolding chain_up chain under_at
counts-root = refl

-- at /p itself none was counted
counts-local : local removed.counted 1 key.Max ≡ 0
counts-local = refl

-- ---- the path

-- it finds no group
finds-none : find_group removed.tree (codes "/p/b") ≡ None
finds-none = refl

-- the removed group is no child
finds-no_child : children removed.tree 1 ≡ 2 ∷ []
finds-no_child = refl

-- no file of it is shown
shows-removed : refusal removed (event.Show (query.Current (group 3))) ≡ Some NoEntry
shows-removed = refl

-- nor set
sets-removed : refusal removed (event.Set (group 3) (setting.Max (amount.Pages 9))) ≡ Some NoEntry
sets-removed = refl

-- no task comes to it
attaches-removed : refusal removed (event.Attach (task 1) (group 3)) ≡ Some NoEntry
attaches-removed = refl

-- no group is made below it
mkdir-below_removed : refusal removed (mkdir (codes "/p/b/x")) ≡ Some NoEntry
mkdir-below_removed = refl

-- it is not removed twice
removes-once : refusal removed (rmdir 3) ≡ Some NoEntry
removes-once = refl

-- and who wanted room in it wants none any more, though its max stands there still
relieves-removed : stands (record removed { limits = no_limits ∷ no_limits ∷ no_limits ∷ max_of 0 ∷ [] }) (cause.Charge (group 3)) ≡ false
unfolding chain_up chain under_at
relieves-removed = refl

-- a group of the path can be made
mkdir-again : refusal removed (mkdir (codes "/p/b")) ≡ None
unfolding chain_up chain
mkdir-again = refl

-- which is another group
abbrev again : State
again = record removed { tree = removed_tree ++ below 1 (codes "/p/b") ∷ []; limits = removed.limits ++ no_limits ∷ []; flags = removed.flags ++ Single ∷ []; counted = removed.counted ++ no_counts ∷ [] }

makes-again : Step removed (mkdir (codes "/p/b")) reply.Ok again
makes-again = refl

-- with the next number
finds-again : find_group again.tree (codes "/p/b") ≡ Some (length removed.tree)
finds-again = refl

-- that is no number of a group before it
finds-another : find_group again.tree (codes "/p/b") ≡ Some 6
finds-another = refl

-- and the old one stays removed
again-not_live : is_live again.tree 3 ≡ false
again-not_live = refl

-- it has no page
again-uses : usage again 6 ≡ 0
unfolding chain_up chain under_at
again-uses = refl

-- no limit
again-limits : limits_at again.limits 6 ≡ no_limits
again-limits = refl

-- and nothing was counted at it
again-counts : shown_of again (query.Events (group 6)) ≡ shown.Events (record { low = 0; high = 0; max = 0; oom = 0; oom_kill = 0; oom_group_kill = 0 })
unfolding chain_up chain under_at
again-counts = refl

-- while for /p nothing has changed
again-parent : shown_of again (query.Events (group 1)) ≡ shown.Events (record { low = 0; high = 0; max = 2; oom = 1; oom_kill = 0; oom_group_kill = 0 })
unfolding chain_up chain under_at
again-parent = refl

-- ---- the lists

-- of groups 1 and 3 these lists, these cursors, and pages 1 and 7 marked
abbrev marks : List Bool
marks = false ∷ true ∷ false ∷ false ∷ false ∷ false ∷ false ∷ true ∷ false ∷ false ∷ false ∷ false ∷ false ∷ []

abbrev order_of : Gens → Gens → List Cursor → Order
order_of one three cursors = record { held = record { groups = new_gens ∷ one ∷ young (listed_at 0 3 ∷ []) ∷ three ∷ new_gens ∷ new_gens ∷ []; marks = marks; hits = [] }; cursors = cursors }

-- /p has a page in each generation, and /p/b page 9 in its oldest and page 1 in its youngest. For the root and for /p/b itself as targets /p/b was served last
abbrev one_before : Gens
one_before = searched 5 2 (listed_at 5 2 ∷ listed_at 6 3 ∷ listed_at 7 4 ∷ listed_at 8 5 ∷ [])

abbrev cursors_before : List Cursor
cursors_before = by_turns (Some 3 ∷ Some 2 ∷ None ∷ Some 3 ∷ None ∷ None ∷ [])

abbrev left_order : Order
left_order = order_of one_before (searched 4 1 (listed_at 9 1 ∷ listed_at 1 4 ∷ [])) cursors_before

-- they enter the second youngest generation of /p, the older first, behind page 7 that is there. No other cursor moves
abbrev one_after : Gens
one_after = searched 5 2 (listed_at 5 2 ∷ listed_at 6 3 ∷ listed_at 7 4 ∷ listed_at 9 4 ∷ listed_at 1 4 ∷ listed_at 8 5 ∷ [])

abbrev cursors_after : List Cursor
cursors_after = by_turns (Some 3 ∷ Some 2 ∷ None ∷ None ∷ None ∷ None ∷ [])

abbrev removed_order : Order
removed_order = order_of one_after (searched 4 1 []) cursors_after

hands_over : Orders left left_order (rmdir 3) reply.Ok removed removed_order
hands_over = refl

abbrev NotHanded : Order → Type 0
NotHanded other = Orders left left_order (rmdir 3) reply.Ok removed other → ⊥

-- not in front of page 7
hands_over-not_first : NotHanded (order_of (searched 5 2 (listed_at 5 2 ∷ listed_at 6 3 ∷ listed_at 9 4 ∷ listed_at 1 4 ∷ listed_at 7 4 ∷ listed_at 8 5 ∷ [])) (searched 4 1 []) cursors_after)
hands_over-not_first = unlike_number left removed left_order removed_order _ (rmdir 3) reply.Ok hands_over (page_standing 1 2) (λ e. omega (arith, e))

-- not into the youngest, as if they had been used since
hands_over-not_youngest : NotHanded (order_of (searched 5 2 (listed_at 5 2 ∷ listed_at 6 3 ∷ listed_at 7 4 ∷ listed_at 8 5 ∷ listed_at 9 5 ∷ listed_at 1 5 ∷ [])) (searched 4 1 []) cursors_after)
hands_over-not_youngest = unlike_number left removed left_order removed_order _ (rmdir 3) reply.Ok hands_over (page_standing 1 3) (λ e. omega (arith, e))

-- not into the oldest
hands_over-not_oldest : NotHanded (order_of (searched 5 2 (listed_at 5 2 ∷ listed_at 9 2 ∷ listed_at 1 2 ∷ listed_at 6 3 ∷ listed_at 7 4 ∷ listed_at 8 5 ∷ [])) (searched 4 1 []) cursors_after)
hands_over-not_oldest = unlike_number left removed left_order removed_order _ (rmdir 3) reply.Ok hands_over (page_standing 1 1) (λ e. omega (arith, e))

-- not the younger page first
hands_over-not_turned : NotHanded (order_of (searched 5 2 (listed_at 5 2 ∷ listed_at 6 3 ∷ listed_at 7 4 ∷ listed_at 1 4 ∷ listed_at 9 4 ∷ listed_at 8 5 ∷ [])) (searched 4 1 []) cursors_after)
hands_over-not_turned = unlike_number left removed left_order removed_order _ (rmdir 3) reply.Ok hands_over (page_standing 1 3) (λ e. omega (arith, e))

-- not on the lists of the removed group as well
hands_over-not_both : NotHanded (order_of one_after (searched 4 1 (listed_at 9 1 ∷ listed_at 1 4 ∷ [])) cursors_after)
hands_over-not_both = unlike_number left removed left_order removed_order _ (rmdir 3) reply.Ok hands_over (page_standing 3 0) (λ e. omega (arith, e))

-- not left there
hands_over-not_left : NotHanded left_order
hands_over-not_left = unlike_number left removed left_order removed_order _ (rmdir 3) reply.Ok hands_over (page_standing 1 3) (λ e. omega (arith, e))

-- no page loses its mark on the way
hands_over-marked : NotHanded (record removed_order { held = record removed_order.held { marks = false ∷ false ∷ false ∷ false ∷ false ∷ false ∷ false ∷ true ∷ false ∷ false ∷ false ∷ false ∷ false ∷ [] } })
hands_over-marked = unlike_mark left removed left_order removed_order _ (rmdir 3) reply.Ok hands_over 1 set_is_not_clear

-- which group was served last for the removed one is forgotten
hands_over-not_served : NotHanded (order_of one_after (searched 4 1 []) cursors_before)
hands_over-not_served = unlike_cursor left removed left_order removed_order _ (rmdir 3) reply.Ok hands_over 3 (λ e. omega (arith, e))

-- for another target it is not
hands_over-cursor_stays : NotHanded (order_of one_after (searched 4 1 []) none_served)
hands_over-cursor_stays = unlike_cursor left removed left_order removed_order _ (rmdir 3) reply.Ok hands_over 1 (λ e. omega (arith, e))

-- nor where it names the removed group
hands_over-names_stay : NotHanded (order_of one_after (searched 4 1 []) (by_turns (None ∷ Some 2 ∷ None ∷ None ∷ None ∷ None ∷ [])))
hands_over-names_stay = unlike_cursor left removed left_order removed_order _ (rmdir 3) reply.Ok hands_over 0 (λ e. omega (arith, e))

-- each type by itself: file pages 3 and 4 go behind file page 2, and page 1 of memory behind none
hands_over-types : taken_over (record { max_seq = 4; anon = record { min_seq = 2; pages = listed_at 1 3 ∷ [] }; file = record { min_seq = 2; pages = listed_at 3 2 ∷ listed_at 4 4 ∷ [] } })
    (record { max_seq = 6; anon = record { min_seq = 5; pages = listed_at 5 6 ∷ [] }; file = record { min_seq = 4; pages = listed_at 2 4 ∷ listed_at 6 6 ∷ [] } })
    ≡ record { max_seq = 6; anon = record { min_seq = 5; pages = listed_at 1 5 ∷ listed_at 5 6 ∷ [] }; file = record { min_seq = 4; pages = listed_at 2 4 ∷ listed_at 3 5 ∷ listed_at 4 5 ∷ listed_at 6 6 ∷ [] } }
hands_over-types = refl

-- ---- whose turn it is

-- before the removal the groups behind /p/b would be asked first
asks-before : asking_order false left.tree 0 (one_page_of 3) ≡ 5 ∷ 0 ∷ 1 ∷ 2 ∷ 3 ∷ []
unfolding preorder_to
asks-before = refl

-- after it a cursor that names it stands for none served: it begins at the target
asks-after : asking_order false removed.tree 0 (one_page_of 3) ≡ asking_order false removed.tree 0 no_cursor
unfolding preorder_to
asks-after = refl

-- and the removed group is not asked
asks-not_removed : asking_order false removed.tree 0 (one_page_of 3) ≡ 0 ∷ 1 ∷ 2 ∷ 5 ∷ []
unfolding preorder_to
asks-not_removed = refl

-- a later group of the path is not the one that was served
asks-again : asking_order false again.tree 0 (one_page_of 3) ≡ 0 ∷ 1 ∷ 2 ∷ 6 ∷ 5 ∷ []
unfolding preorder_to
asks-again = refl

-- the group that gives a page is the same as if none was served
serves-as_none : served removed removed_order Amount 0 ≡ served removed (record removed_order { cursors = none_served }) Amount 0
unfolding chain_up chain under_at chain_below effective_along preorder_to
serves-as_none = refl

-- for /p, where /p/a was served last, it was the turn of /p/b
serves-before : served left left_order Amount 1 ≡ Some 3
unfolding chain_up chain under_at chain_below effective_along preorder_to
serves-before = refl

-- and is that of /p itself, which has the pages now
serves-after : served removed removed_order Amount 1 ≡ Some 1
unfolding chain_up chain under_at chain_below effective_along preorder_to
serves-after = refl

-- ---- transfers that end after the removal

-- the state after it, with these pages 2 and 3
abbrev with_two : Page → Page → State
with_two two_is three_is =
    record removed {
      pages =
          Some (memory 2 (Held 0)) ∷ Some (memory 1 (Held 1)) ∷ Some two_is ∷ Some three_is ∷ Some (memory 1 (Away 3)) ∷ Some (memory 1 (Held 4)) ∷ Some (memory 1 (Held 5))
          ∷ Some (memory 1 (Held 6)) ∷ Some (memory 1 (Held 7)) ∷ Some (memory 1 (Held 8)) ∷ [];
    }

-- page 3 is on its block then, as a page of /p
abbrev gone : State
gone = with_two (memory 1 (Coming 2 1 7)) (memory 1 (Away 2))

leaves : Step removed (event.Left (ticket 8)) reply.Ok gone
leaves = record { p = 3; page = memory 1 (Going 3 2 8); frame = 3; block = 2; there = refl; moves = refl; placed = record { changed = refl; others = others }; answers = refl; state = refl }
  where
    others : (m : ℕ) → m ≢ 3 → at gone.pages m ≡ at removed_pages m
    others zero other = refl
    others (suc zero) other = refl
    others (suc (suc zero)) other = refl
    others (suc (suc (suc zero))) other = absurd (other refl)
    others (suc (suc (suc (suc m)))) other = refl

-- and is charged to nobody any more
leaves-uncharged : usage gone 1 ≡ 8
unfolding chain_up chain under_at
leaves-uncharged = refl

-- page 2 arrives, and enters the second youngest generation of /p, behind those that came there by the removal
abbrev arrived : State
arrived = with_two (memory 1 (Held 2)) (memory 1 (Going 3 2 8))

abbrev arrived_order : Order
arrived_order = order_of (searched 5 2 (listed_at 5 2 ∷ listed_at 6 3 ∷ listed_at 7 4 ∷ listed_at 9 4 ∷ listed_at 1 4 ∷ listed_at 2 4 ∷ listed_at 8 5 ∷ [])) (searched 4 1 []) cursors_after

arrives : Orders removed removed_order (event.Arrived (ticket 7) []) reply.Ok arrived arrived_order
arrives = (record { fresh = Some 2; which = which; groups = refl; size = refl; marks = stay; counts = refl; hits = stay_unhit SecondYoungest refl removed.pages arrived.pages }, refl)
  where
    which : (p : ℕ) → is_number (Some 2) p ≡ is_fresh removed_pages arrived.pages p
    which zero = refl
    which (suc zero) = refl
    which (suc (suc zero)) = refl
    which (suc (suc (suc p))) = other_number 2 (suc (suc (suc p))) (omega arith) ∙ not_new (is_held_in removed_pages (suc (suc (suc p))))

    stay : (p : ℕ) → is_marked marks p ≡ (is_held_in removed_pages p && is_held_in arrived.pages p && is_marked marks p)
    stay zero = refl
    stay (suc zero) = refl
    stay (suc (suc zero)) = refl
    stay (suc (suc (suc zero))) = refl
    stay (suc (suc (suc (suc zero)))) = refl
    stay (suc (suc (suc (suc (suc zero))))) = refl
    stay (suc (suc (suc (suc (suc (suc zero)))))) = refl
    stay (suc (suc (suc (suc (suc (suc (suc zero))))))) = refl
    stay (suc (suc (suc (suc (suc (suc (suc (suc p)))))))) =
        stay_unmarked 5 (is_held_in removed_pages (suc (suc (suc (suc (suc (suc (suc (suc p))))))))) (is_held_in arrived.pages (suc (suc (suc (suc (suc (suc (suc (suc p))))))))) p

-- no list of the removed group gets it
arrives-not_removed : Orders removed removed_order (event.Arrived (ticket 7) []) reply.Ok arrived (order_of one_after (searched 4 1 (listed_at 2 3 ∷ [])) cursors_after) → ⊥
arrives-not_removed = unlike_number removed arrived removed_order arrived_order _ (event.Arrived (ticket 7) []) reply.Ok arrives (page_standing 3 0) (λ e. omega (arith, e))

-- ---- the parent goes, too

-- /p/a was removed, too, and task 1 runs in the root
abbrev alone : State
alone = record removed {
  tree = root ∷ below 0 (codes "/p") ∷ record (below 1 (codes "/p/a")) { live = false } ∷ record (below 1 (codes "/p/b")) { live = false } ∷ [];
  pages = Some (memory 1 (Held 0)) ∷ Some (memory 1 (Away 3)) ∷ [];
  tasks = None ∷ Some (task_of 0 Live) ∷ [];
  counted = no_counts ∷ no_counts ∷ no_counts ∷ record no_counts { max = 1 } ∷ [];
}

removes-parent_too : refusal alone (rmdir 1) ≡ None
removes-parent_too = refl

-- its pages, which were of two groups below it, are the root's
abbrev rooted : State
rooted = record alone {
  tree = root ∷ record (below 0 (codes "/p")) { live = false } ∷ record (below 1 (codes "/p/a")) { live = false } ∷ record (below 1 (codes "/p/b")) { live = false } ∷ [];
  pages = Some (memory 0 (Held 0)) ∷ Some (memory 0 (Away 3)) ∷ [];
}

roots : Step alone (rmdir 1) reply.Ok rooted
roots = record { parent = 0; below = refl; pages = pages; state = refl }
  where
    pages : (p : ℕ) → page_at rooted.pages p ≡ option_map (regrouped Own 1 0) (page_at alone.pages p)
    pages zero = refl
    pages (suc zero) = refl
    pages (suc (suc p)) = refl

-- and what was counted at the lower one counts for the root still, through two groups that are there no more
roots-counts : total rooted.tree rooted.counted 0 key.Max ≡ 1
unfolding chain_up chain under_at
roots-counts = refl

-- ---- the whole call

call-removes : Called (past left left_order) caller (rmdir 3) reply.Ok (after (past left left_order) (rmdir 3) reply.Ok removed removed_order)
call-removes = record { steps = removes; order = hands_over; history = refl; passes = refl }

-- a removal wants no memory
call-removes_no_memory : (new : Past) → Called (past left left_order) caller (rmdir 3) (reply.Refused why.NoMemory) new → ⊥
call-removes_no_memory new call = let e : false ≡ true = call.1 in cc

grows-rmdir : (s : State) (g : ℕ) → grows s (rmdir g) ≡ false
grows-rmdir s g = refl

-- one that is refused changes nothing
call-busy : (answer : Reply) (new : Past) → Called (past busy left_order) caller (rmdir 2) answer new → new ≡ past busy left_order
call-busy answer new call = call.1

-- it takes one entry, beside those kept for the two transfers
call-removes_room : is_full_for (record left { opening = record opening { trace_limit = 3 } }) [] (rmdir 3) ≡ false
call-removes_room = refl

-- which may be more than there is room for
call-removes_full : is_full_for (record left { opening = record opening { trace_limit = 2 } }) [] (rmdir 3) ≡ true
call-removes_full = refl
