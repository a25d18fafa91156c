-- Examples: what is refused and why, and steps that there are and that there are not.
use Rattle.std.proofs.Common.{◌≡◌, ℕ, true, List, [], ◌∷◌, Option, Some, None, refl}
use Rattle.std.specs.Prelude.{codes, replicate}
use Rattle.machine.specs.declared.amount.Amount.TheVariants as amount
use Rattle.machine.specs.declared.event.Cause.TheVariants as cause
use Rattle.machine.specs.declared.event.Op.TheVariants.{Read, Write}
use Rattle.machine.specs.declared.event.Place.TheVariants.{Virtual}
use Rattle.machine.specs.declared.event.Setting.TheVariants as setting
use Rattle.machine.specs.declared.event.Query.TheVariants as query
use Rattle.machine.specs.declared.event.Event.{Event}
use Rattle.machine.specs.declared.event.Event.TheVariants as event
use Rattle.machine.specs.declared.id.FrameId.{FrameId}
use Rattle.machine.specs.declared.record.Guard.TheVariants as guard
use Rattle.machine.specs.declared.record.Life.TheVariants.{Exited, Killed}
use Rattle.machine.specs.declared.record.Key.TheVariants as key
use Rattle.machine.specs.declared.reply.Reply.{Reply}
use Rattle.machine.specs.declared.reply.Reply.TheVariants as reply
use Rattle.machine.specs.declared.reply.Shown.TheVariants as shown
use Rattle.machine.specs.declared.refusal.Refusal.TheVariants.{NoEntry, Busy, NoTask, NumberUsed, Invalid}
use Rattle.machine.specs.Tree.{chain_up, chain, under_at}
use Rattle.machine.specs.Pages.{Held, Coming, Going, Away, page_at}
use Rattle.machine.specs.Counts.{no_limits, local, total, over_at, no_counts, with_event}
use Rattle.machine.specs.Tasks.{task_of}
use Rattle.machine.specs.State.{State}
use Rattle.machine.specs.Refusals.{refusal}
use Rattle.machine.specs.History.{IsRight}
use Rattle.machine.specs.Step.{in_frame, on_block, new_node, shown_of, Step}
use Rattle.computed.proofs.ExampleStates.{first_bytes, group, task, frame, shows, below, tree, memory, of_file, tables, busy, max_of, opening}
use Rattle.machine.specs.declared.record.EventCounts.{EventCounts}

-- ---- tasks

abbrev read : ℕ → ℕ → ℕ → Event
read t v offset = event.Access (task t) (Virtual v offset) Read

-- a task that exited is none
access-exited : refusal busy (read 4 0 0) ≡ Some NoTask
access-exited = refl

-- a task that was killed is not refused, whatever the place
access-killed : refusal busy (read 3 5000 0) ≡ None
access-killed = refl

-- and is told so
tells-killed : Step busy (read 3 5000 0) reply.Killed busy
tells-killed = (refl, refl)

-- the number of a task that was killed is used for ever
spawn-used : refusal busy (event.Spawn (task 3) (group 2)) ≡ Some NumberUsed
spawn-used = refl

-- a task's number is at most 65,535
spawn-past_last : refusal busy (event.Spawn (task 65536) (group 2)) ≡ Some Invalid
spawn-past_last = refl

-- a group with children takes no task, which is asked before the number
spawn-busy : refusal busy (event.Spawn (task 0) (group 1)) ≡ Some Busy
spawn-busy = refl

-- but the root does
spawn-root : refusal busy (event.Spawn (task 5) (group 0)) ≡ None
spawn-root = refl

-- a removed group is none, which is asked first
spawn-removed : refusal busy (event.Spawn (task 0) (group 4)) ≡ Some NoEntry
spawn-removed = refl

-- ---- groups

-- the path of a removed group is free again
mkdir-again : refusal busy (event.Mkdir (codes "/q")) ≡ None
unfolding chain_up chain
mkdir-again = refl

-- a group with tasks has no children
mkdir-busy : refusal busy (event.Mkdir (codes "/p/a/x")) ≡ Some Busy
mkdir-busy = refl

-- tasks that ended bar none
mkdir-ended : refusal (record busy { tasks = None ∷ Some (task_of 3 Killed) ∷ Some (task_of 3 Exited) ∷ [] }) (event.Mkdir (codes "/p/b/x")) ≡ None
unfolding chain_up chain
mkdir-ended = refl

-- the new group hangs below the group of the path before its last name
mkdir-node : new_node tree (codes "/p/c") ≡ below 1 (codes "/p/c")
mkdir-node = refl

-- ---- files

-- the root has no `memory.max`
set-root : refusal busy (event.Set (group 0) (setting.Max amount.Max)) ≡ Some NoEntry
set-root = refl

-- the target has no protection from itself to be asked for
show-own : refusal busy (event.Show (query.Protection guard.Min (group 1) (group 1))) ≡ Some NoEntry
unfolding chain_up chain under_at
show-own = refl

-- a relief is never refused: it may be about a group that was removed since
relieve-removed : refusal busy (event.Relieve (cause.Charge (group 4))) ≡ None
relieve-removed = refl

-- what is shown is in pages
shows-current : shown_of busy (query.Current (group 2)) ≡ shown.Pages 3
unfolding chain_up chain under_at
shows-current = refl

-- an event of /q, which is removed, and one of /p/b
abbrev counted : List EventCounts
counted = with_event (with_event (replicate 6 no_counts) 4 key.Oom) 3 key.Oom

-- a group counts for all below it, also removed ones
counts-root : total tree counted 0 key.Oom ≡ 2
unfolding chain_up chain under_at
counts-root = refl

-- and locally for itself alone
counts-local : local counted 1 key.Oom ≡ 0
counts-local = refl

-- ---- ends of transfers

-- a page that was read in while its task ended is gone
ends-unmapped : in_frame [] 2 (memory 2 (Coming 0 1 7)) 0 1 ≡ None
ends-unmapped = refl

-- one that is shown stands on its block
ends-on_block : on_block tables 3 (memory 3 (Going 1 2 8)) 1 2 ≡ Some (memory 3 (Away 2))
ends-on_block = refl

-- a file's page has no record there
ends-file : on_block tables 7 (of_file 2 true (Going 2 9 3)) 2 9 ≡ None
ends-file = refl

-- but one that could not be written keeps its frame, though nothing maps it
ends-file_failed : in_frame tables 7 (of_file 2 true (Going 2 9 3)) 2 9 ≡ Some (of_file 2 true (Held 2))
ends-file_failed = refl

-- ---- steps

-- page 99 is not there, and task 1 shows it
abbrev dangling : State
dangling = record busy { page_tables = [] ∷ (shows 99 ∷ []) ∷ [] }

-- a write to it has no reply and no state after it
dangling-write : (answer : Reply) (new : State) → Step dangling (event.Access (task 1) (Virtual 0 0) (Write 7)) answer new → ⊥
dangling-write answer new step = step

-- by the step alone, a read where nothing is mapped gives any byte
unmapped-any : (b : ℕ) → Step busy (read 1 9 0) (reply.Done b None) busy
unmapped-any b = (refl, refl)

-- it changes nothing
unmapped-same : (answer : Reply) (new : State) → Step busy (read 1 9 0) answer new → new ≡ busy
unmapped-same (reply.Done byte hit) new step = step.1
unmapped-same answer new step = absurd step

-- and the history says which byte it is: 0, where nothing was written
unmapped-zero : (b : ℕ) → IsRight first_bytes [] (read 1 9 0) (reply.Done b None) → b ≡ 0
unmapped-zero b right = right

-- a write to a hit gives the byte that it wrote, and the frame that it hit
hit-gives : (b : ℕ) (hit : Option FrameId) (new : State) → Step busy (event.Access (task 1) (Virtual 1 0) (Write 7)) (reply.Done b hit) new → (b ≡ 7) × (hit ≡ Some (frame 5))
hit-gives b hit new step = (step.0, step.1)

-- an access to a page in transfer is told to wait, and nothing else
transfer-busy : (answer : Reply) (new : State) → Step busy (read 1 2 0) answer new → answer ≡ reply.Busy
transfer-busy answer new step = step.0

-- with no max, and with all 4 frames used, a write that needs a page is told so
no_frame : (answer : Reply) (new : State) → Step (record busy { opening = record opening { frames = 4 }; limits = [] }) (event.Access (task 1) (Virtual 9 0) (Write 7)) answer new → answer ≡ reply.NoFrame
unfolding chain_up chain under_at over_at
no_frame answer new step = step.0

-- 2 frames are free: whoever wants one is told that there is room
room : (answer : Reply) (new : State) → Step busy (event.Relieve cause.Frame) answer new → answer ≡ reply.Room
room answer new step = step.0

-- task 1 of /p/a, which is full, shows page 4 of /p/b, which is on block 3
abbrev lent : State
lent = record busy { limits = no_limits ∷ no_limits ∷ max_of 3 ∷ []; page_tables = [] ∷ (shows 4 ∷ []) ∷ [] }

-- a read of it is no charge to /p/a: the page comes in as /p/b's
swap_in-own : (answer : Reply) (new : State) → Step lent (read 1 0 0) answer new → (f : ℕ) × (n : ℕ) × (page_at new.pages 4 ≡ Some (memory 3 (Coming f 3 n)))
unfolding chain_up chain under_at over_at
swap_in-own answer new step = (step.frame, step.ticket, step.placed.changed)
