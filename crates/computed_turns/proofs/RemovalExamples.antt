-- Examples of groups that are removed: one whose task has gone, whose pages are its parent's then; and what removals are refused.
use Rattle.std.proofs.Common.{◌≡◌, ℕ, zero, suc, true, false, List, [], ◌∷◌, Some, None, refl}
use Rattle.std.specs.Prelude.{codes, Ok, Err, option_map}
use Rattle.machine.specs.declared.config.Placement.TheVariants.{Own}
use Rattle.machine.specs.declared.record.OomGroup.TheVariants.{Single}
use Rattle.machine.specs.declared.command.Actor.TheVariants as actor
use Rattle.machine.specs.declared.command.Command.{Command}
use Rattle.machine.specs.declared.command.Command.TheVariants as command
use Rattle.machine.specs.declared.command.Answer.TheVariants as answer
use Rattle.machine.specs.declared.command.Word.TheVariants as word
use Rattle.machine.specs.declared.event.Event.TheVariants as event
use Rattle.machine.specs.declared.record.Life.TheVariants.{Live}
use Rattle.machine.specs.declared.refusal.Refusal.TheVariants.{Invalid, NoEntry, Busy}
use Rattle.machine.specs.declared.reply.Reply.TheVariants as reply
use Rattle.machine.specs.Tree.{Node, root, chain_up, chain, under_at}
use Rattle.machine.specs.Pages.{Memory, Held, Away, Page, page_at}
use Rattle.machine.specs.Counts.{no_limits, no_counts}
use Rattle.machine.specs.Tasks.{PageTables, task_of}
use Rattle.machine.specs.Order.{no_cursor, one_page_of}
use Rattle.machine.specs.State.{Opening, State}
use Rattle.machine.specs.Refusals.{refusal}
use Rattle.machine.specs.Step.{regrouped}
use Rattle.machine.specs.Generations.{Gens, new_gens}
use Rattle.machine.specs.Call.{Past, entries_of}
use Rattle.book_events.specs.declared.event.Event.TheVariants as asks
use Rattle.book_events.specs.declared.event.Reply.TheVariants as says
use Rattle.turns.specs.declared.turn.Pending.TheVariants as pending
use Rattle.turns.specs.declared.turn.Stage.TheVariants as stage
use Rattle.driver.specs.declared.seat.Outcome.TheVariants.{Ends}
use Rattle.turns.specs.declared.turn.Transition.TheVariants as transition
use Rattle.driver.specs.declared.seat.Activity.TheVariants.{Rests, Begun}
use Rattle.turns.specs.Turns.{judged}
use Rattle.driver.specs.Schedule.{Asks, Turn}
use Rattle.computed_turns.proofs.TurnExamples.{caller}
use Rattle.computed_turns.proofs.TaskExamples.{r, tree, world}

-- two pages of a group's memory: one in a frame, and one on its block
abbrev in_frame : ℕ → Page
in_frame g = record { content = Memory; group = g; dirty = false; residence = Held 0 }

abbrev on_block : ℕ → Page
on_block g = record { content = Memory; group = g; dirty = false; residence = Away 0 }

-- task 1 shows both
abbrev tables : PageTables
tables = [] ∷ (Some (record { 0 = 0 }) ∷ Some (record { 0 = 1 }) ∷ []) ∷ []

abbrev opening : Opening
opening = record { frames = 2; swap = 1; files = []; watermarks = record { low = 0; high = 0 }; trace_limit = 8; recursive = false; placement = Own; page_size = 4096 }

-- task 1 is of the group h, and both pages are of the group g
abbrev with_groups : List Node → ℕ → ℕ → State
with_groups groups h g = record {
  opening = opening;
  tree = groups;
  limits = no_limits ∷ no_limits ∷ [];
  flags = Single ∷ Single ∷ [];
  pages = Some (in_frame g) ∷ Some (on_block g) ∷ [];
  tasks = None ∷ Some (task_of h Live) ∷ [];
  page_tables = tables;
  counted = no_counts ∷ no_counts ∷ [];
}

-- task 1 made its pages in /r, and is of the root since
abbrev left : State
left = with_groups tree 0 1

-- /r is gone, and the pages are the root's
abbrev gone : List Node
gone = root ∷ record { parent = Some 0; path = codes "/r"; live = false } ∷ []

abbrev removed : State
removed = with_groups gone 0 0

-- lists with one page of memory, in this generation
abbrev lists_of : ℕ → Gens
lists_of seq = record { max_seq = 3; anon = record { min_seq = 0; pages = record { page = 0; seq = seq } ∷ [] }; file = record { min_seq = 0; pages = [] } }

-- the page in the frame is marked and in the youngest generation of /r, the group that was served last for the root and for itself
abbrev at_first : Past
at_first = record { state = left; history = []; order = record { held = record { groups = new_gens ∷ lists_of 3 ∷ []; marks = true ∷ false ∷ []; hits = [] }; cursors = one_page_of 1 ∷ one_page_of 1 ∷ [] }; passes = 1 }

-- it is in the root's second youngest generation then, and marked still; the lists of /r are empty, and no group was served last for it
abbrev once_removed : Past
once_removed = record {
  state = removed;
  history = entries_of caller [] (event.Rmdir r) reply.Ok;
  order = record { held = record { groups = lists_of 2 ∷ new_gens ∷ []; marks = true ∷ false ∷ []; hits = [] }; cursors = one_page_of 1 ∷ no_cursor ∷ [] };
  passes = 1;
}

abbrev rmdir : Command
rmdir = command.Rmdir (codes "/r")

-- ---- a removal

removed_pages : (p : ℕ) → page_at removed.pages p ≡ option_map (regrouped Own 1 0) (page_at left.pages p)
removed_pages zero = refl
removed_pages (suc zero) = refl
removed_pages (suc (suc p)) = refl

-- the book removes the group: its pages, the one on its block too, are its parent's
asks_removal : Asks caller at_first pending.Make (asks.Rmdir r) (transition.Ends answer.Done) once_removed
unfolding chain_up chain under_at
asks_removal = record {
  said = says.Ok;
  mid = once_removed;
  called = record { steps = record { parent = 0; below = refl; pages = removed_pages; state = refl }; order = refl; history = refl; passes = refl };
  gives = tt;
  keeps = tt;
  told = refl;
  marks = refl;
}

-- the shell removes the group of a path in one turn
removes : Turn (world actor.Shell at_first (Begun rmdir)) actor.Shell (Ends answer.Done) (world actor.Shell once_removed Rests)
removes = record { transition = transition.Ends answer.Done; turns = (asks_removal, refl); shows = refl; leaves = refl; same = refl; limit = refl }

-- and so does control
removes-control : Turn (world actor.Control at_first (Begun rmdir)) actor.Control (Ends answer.Done) (world actor.Control once_removed Rests)
removes-control = record { transition = transition.Ends answer.Done; turns = (asks_removal, refl); shows = refl; leaves = refl; same = refl; limit = refl }

-- ---- what is refused

-- there is no group of the path, and nothing changes
misses : Turn (world actor.Shell at_first (Begun (command.Rmdir (codes "/x")))) actor.Shell (Ends (answer.Word (word.Refused NoEntry))) (world actor.Shell at_first Rests)
misses = (refl, refl)

-- a removed group is not removed again
misses-removed : Turn (world actor.Control once_removed (Begun rmdir)) actor.Control (Ends (answer.Word (word.Refused NoEntry))) (world actor.Control once_removed Rests)
misses-removed = (refl, refl)

-- task 1 is of /r still
abbrev peopled : Past
peopled = record at_first { state = with_groups tree 1 1 }

-- the book refuses the removal of a group with a live task, and nothing changes
meets-task : Turn (world actor.Shell peopled (Begun rmdir)) actor.Shell (Ends (answer.Word (word.Refused Busy))) (world actor.Shell peopled Rests)
unfolding chain_up chain under_at
meets-task = record {
  transition = transition.Ends (answer.Word (word.Refused Busy));
  turns = (record { said = says.Refused Busy; mid = peopled; called = (refl, refl); gives = tt; keeps = tt; told = refl; marks = refl }, refl);
  shows = refl;
  leaves = refl;
  same = refl;
  limit = refl;
}

-- the path of the root is found, and the book refuses its removal
root-found : judged opening tree actor.Control (command.Rmdir (codes "/")) ≡ Ok (stage.Rmdir (record { 0 = 0 }))
root-found = refl

root-refused : refusal left (event.Rmdir (record { 0 = 0 })) ≡ Some Busy
root-refused = refl

-- a removal is the shell's and control's alone
rmdir-task : judged opening tree (actor.Task 1) rmdir ≡ Err Invalid
rmdir-task = refl

rmdir-daemon : judged opening tree actor.Daemon rmdir ≡ Err Invalid
rmdir-daemon = refl
