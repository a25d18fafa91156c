-- Examples of what tasks are told: one forks, the child is moved, and the parent frees the page that both show; and who may not be told so.
use Rattle.std.proofs.Common.{◌≡◌, ◌≢◌, ℕ, zero, suc, ◌==◌, ◌&&◌, true, false, List, [], ◌∷◌, Some, None, refl}
use Rattle.std.specs.Prelude.{codes, Ok, Err}
use Rattle.machine.specs.declared.config.Placement.TheVariants.{Own}
use Rattle.machine.specs.declared.record.OomGroup.TheVariants.{Single}
use Rattle.machine.specs.declared.command.Actor.{Actor}
use Rattle.machine.specs.declared.command.Actor.TheVariants as actor
use Rattle.machine.specs.declared.command.Command.TheVariants as command
use Rattle.machine.specs.declared.command.Answer.TheVariants as answer
use Rattle.machine.specs.declared.command.Word.TheVariants as word
use Rattle.machine.specs.declared.event.Event.TheVariants as event
use Rattle.machine.specs.declared.id.GroupId.{GroupId}
use Rattle.machine.specs.declared.id.TaskId.{TaskId}
use Rattle.machine.specs.declared.record.Life.TheVariants.{Live, Killed}
use Rattle.machine.specs.declared.refusal.Refusal.TheVariants.{Invalid, NoEntry}
use Rattle.machine.specs.declared.reply.Reply.TheVariants as reply
use Rattle.machine.specs.Slots.{at}
use Rattle.machine.specs.Tree.{Node, root, chain_up, chain, under_at}
use Rattle.machine.specs.Pages.{Memory, Away, Page, page_at, is_held_in, is_number}
use Rattle.machine.specs.Counts.{no_limits, no_counts}
use Rattle.machine.specs.Tasks.{Tasks, PageTable, PageTables, task_of, mapped_at}
use Rattle.machine.specs.State.{Opening, State}
use Rattle.machine.specs.Step.{still}
use Rattle.machine.specs.Aging.{is_marked}
use Rattle.machine.specs.Lists.{Youngest, GoesOn, is_fresh}
use Rattle.machine.specs.Call.{Past}
use Rattle.book_events.specs.declared.event.Reply.TheVariants as says
use Rattle.turns.specs.declared.turn.Stage.TheVariants as stage
use Rattle.driver.specs.declared.seat.Outcome.TheVariants.{Ends}
use Rattle.turns.specs.declared.turn.Transition.TheVariants as transition
use Rattle.driver.specs.declared.seat.Activity.{Activity}
use Rattle.driver.specs.declared.seat.Activity.TheVariants.{Rests, Begun}
use Rattle.turns.specs.Turns.{judged}
use Rattle.driver.specs.Schedule.{World, Turn}
use Rattle.computed_turns.proofs.TurnExamples.{lists, order, caller, disk, after, stay_unhit}

abbrev task : ℕ → TaskId
task n = record { 0 = n }

abbrev pub r : GroupId
r = record { 0 = 1 }

-- a page of the root's memory, which is on its block
abbrev away : Page
away = record { content = Memory; group = 0; dirty = false; residence = Away 0 }

-- the first virtual page shows it
abbrev shows : PageTable
shows = Some (record { 0 = 0 }) ∷ []

-- the root, and /r below it, which is group 1
abbrev pub tree : List Node
tree = root ∷ record { parent = Some 0; path = codes "/r"; live = true } ∷ []

abbrev opening : Opening
opening = record { frames = 2; swap = 1; files = []; watermarks = record { low = 0; high = 0 }; trace_limit = 8; recursive = false; placement = Own; page_size = 4096 }

abbrev with_tasks : Tasks → PageTables → State
with_tasks tasks tables = record {
  opening = opening;
  tree = tree;
  limits = no_limits ∷ no_limits ∷ [];
  flags = Single ∷ Single ∷ [];
  pages = Some away ∷ [];
  tasks = tasks;
  page_tables = tables;
  counted = no_counts ∷ no_counts ∷ [];
}

-- task 1 of the root shows the page, and nobody else does
abbrev alone : State
alone = with_tasks (None ∷ Some (task_of 0 Live) ∷ []) ([] ∷ shows ∷ [])

-- task 2 shows it too
abbrev shared : State
shared = with_tasks (None ∷ Some (task_of 0 Live) ∷ Some (task_of 0 Live) ∷ []) ([] ∷ shows ∷ shows ∷ [])

-- task 2 is of /r then, and the page is the root's still
abbrev moved : State
moved = with_tasks (None ∷ Some (task_of 0 Live) ∷ Some (task_of 1 Live) ∷ []) ([] ∷ shows ∷ shows ∷ [])

-- task 1 shows nothing any more, and the page stays for task 2
abbrev freed : State
freed = with_tasks (None ∷ Some (task_of 0 Live) ∷ Some (task_of 1 Live) ∷ []) ([] ∷ (None ∷ []) ∷ shows ∷ [])

abbrev of_state : State → Past
of_state s = record { state = s; history = []; order = order; passes = 1 }

abbrev at_first : Past
at_first = of_state alone

abbrev once_forked : Past
once_forked = after at_first (event.Fork (task 1) (task 2)) reply.Ok shared

abbrev once_moved : Past
once_moved = after once_forked (event.Attach (task 2) r) reply.Ok moved

abbrev once_freed : Past
once_freed = after once_moved (event.Free (task 1) 0) reply.Ok freed

-- the actor is at this, and nobody else has a command
abbrev pub world : Actor → Past → Activity → World
world who past what = record { past = past; caller = caller; disk = disk; seats = record { actor = who; activity = what } ∷ []; turns = 1000 }

-- the page is held neither before nor after, and no page is marked
none_fresh : (p : ℕ) → is_number None p ≡ is_fresh (Some away ∷ []) (Some away ∷ []) p
none_fresh zero = refl
none_fresh (suc p) = refl

none_marked : (p : ℕ) → is_marked lists.marks p ≡ (is_held_in (Some away ∷ []) p && is_held_in (Some away ∷ []) p && is_marked lists.marks p)
none_marked zero = refl
none_marked (suc zero) = refl
none_marked (suc (suc p)) = refl

unchanged : GoesOn Youngest (Some away ∷ []) lists (Some away ∷ []) lists
unchanged = record { fresh = None; which = none_fresh; groups = refl; size = refl; marks = none_marked; counts = refl; hits = stay_unhit Youngest refl (Some away ∷ []) (Some away ∷ []) }

-- ---- turns

-- every other task and place is as it was
forked_tasks : (t : ℕ) → t ≢ 2 → at shared.tasks t ≡ at alone.tasks t
forked_tasks zero other = refl
forked_tasks (suc zero) other = refl
forked_tasks (suc (suc zero)) other = absurd (other refl)
forked_tasks (suc (suc (suc t))) other = refl

forked_places : (u w : ℕ) → u ≢ 2 → mapped_at shared.page_tables u w ≡ mapped_at alone.page_tables u w
forked_places zero w other = refl
forked_places (suc zero) w other = refl
forked_places (suc (suc zero)) w other = absurd (other refl)
forked_places (suc (suc (suc u))) w other = refl

-- a fork is done in one turn: the child shows what its parent shows, the page on its block too
forks : Turn (world (actor.Task 1) at_first (Begun (command.Fork 2))) (actor.Task 1) (Ends answer.Done) (world (actor.Task 1) once_forked Rests)
unfolding chain_up chain under_at
forks = record {
  transition = transition.Ends answer.Done;
  turns = (
    record {
      said = says.Ok;
      mid = once_forked;
      called = record {
        steps = (refl, record { changed = refl; others = forked_tasks }, record { copied = λ v. refl; others = forked_places }, refl);
        order = (unchanged, refl);
        history = refl;
        passes = refl;
      };
      gives = tt;
      keeps = tt;
      told = refl;
      marks = refl;
    },
    refl,
  );
  shows = refl;
  leaves = refl;
  same = refl;
  limit = refl;
}

moved_tasks : (t : ℕ) → t ≢ 2 → at moved.tasks t ≡ at shared.tasks t
moved_tasks zero other = refl
moved_tasks (suc zero) other = refl
moved_tasks (suc (suc zero)) other = absurd (other refl)
moved_tasks (suc (suc (suc t))) other = refl

-- control moves the child to the group of a path
attaches : Turn (world actor.Control once_forked (Begun (command.Attach 2 (codes "/r")))) actor.Control (Ends answer.Done) (world actor.Control once_moved Rests)
unfolding chain_up chain under_at
attaches = record {
  transition = transition.Ends answer.Done;
  turns = (
    record {
      said = says.Ok;
      mid = once_moved;
      called = record { steps = (record { changed = refl; others = moved_tasks }, refl); order = (unchanged, refl); history = refl; passes = refl };
      gives = tt;
      keeps = tt;
      told = refl;
      marks = refl;
    },
    refl,
  );
  shows = refl;
  leaves = refl;
  same = refl;
  limit = refl;
}

freed_places : (u w : ℕ) → ((1 == u) && (0 == w)) ≡ false → mapped_at freed.page_tables u w ≡ mapped_at moved.page_tables u w
freed_places zero w other = refl
freed_places (suc zero) zero other = cc
freed_places (suc zero) (suc w) other = refl
freed_places (suc (suc u)) w other = refl

freed_pages : (p : ℕ) → page_at freed.pages p ≡ still freed.page_tables p (page_at moved.pages p)
freed_pages zero = refl
freed_pages (suc p) = refl

-- the parent frees the page that its child shows, and the page stays
frees : Turn (world (actor.Task 1) once_moved (Begun (command.Free 0))) (actor.Task 1) (Ends answer.Done) (world (actor.Task 1) once_freed Rests)
unfolding chain_up chain under_at
frees = record {
  transition = transition.Ends answer.Done;
  turns = (
    record {
      said = says.Ok;
      mid = once_freed;
      called = record {
        steps = record { answers = refl; shown = record { changed = refl; others = freed_places }; pages = freed_pages; state = refl };
        order = (unchanged, refl);
        history = refl;
        passes = refl;
      };
      gives = tt;
      keeps = tt;
      told = refl;
      marks = refl;
    },
    refl,
  );
  shows = refl;
  leaves = refl;
  same = refl;
  limit = refl;
}

-- ---- a killed task

-- task 1 was killed
abbrev killed : Past
killed = of_state (with_tasks (None ∷ Some (task_of 0 Killed) ∷ []) ([] ∷ [] ∷ []))

-- its fork is told so, and makes no task
forks-killed : Turn (world (actor.Task 1) killed (Begun (command.Fork 2))) (actor.Task 1) (Ends (answer.Word word.Killed))
    (world (actor.Task 1) (after killed (event.Fork (task 1) (task 2)) reply.Killed killed.state) Rests)
unfolding chain_up chain under_at
forks-killed = record {
  transition = transition.Ends (answer.Word word.Killed);
  turns = (
    record {
      said = says.Killed;
      mid = after killed (event.Fork (task 1) (task 2)) reply.Killed killed.state;
      called = record { steps = (refl, refl); order = (unchanged, refl); history = refl; passes = refl };
      gives = tt;
      keeps = tt;
      told = refl;
      marks = refl;
    },
    refl,
  );
  shows = refl;
  leaves = refl;
  same = refl;
  limit = refl;
}

-- ---- who is told what

-- a fork and a free are a task's own
fork-shell : judged opening tree actor.Shell (command.Fork 2) ≡ Err Invalid
fork-shell = refl

fork-daemon : judged opening tree actor.Daemon (command.Fork 2) ≡ Err Invalid
fork-daemon = refl

free-control : judged opening tree actor.Control (command.Free 0) ≡ Err Invalid
free-control = refl

-- a task does not move itself, not even to a group that is not there
attach-task : judged opening tree (actor.Task 1) (command.Attach 1 (codes "/x")) ≡ Err Invalid
attach-task = refl

-- the path is looked for before the book is asked whether there is such a task
attach-nowhere : judged opening tree actor.Shell (command.Attach 9 (codes "/x")) ≡ Err NoEntry
attach-nowhere = refl

attach-no_task : judged opening tree actor.Shell (command.Attach 9 (codes "/r")) ≡ Ok (stage.Attach (task 9) r)
attach-no_task = refl

-- the book judges a child's number and a virtual page, not the driver
fork-zero : judged opening tree (actor.Task 1) (command.Fork 0) ≡ Ok (stage.Fork (task 1) (task 0))
fork-zero = refl

free-past : judged opening tree (actor.Task 1) (command.Free 100000) ≡ Ok (stage.Free (task 1) 100000)
free-past = refl
