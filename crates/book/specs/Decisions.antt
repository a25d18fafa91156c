-- What an event without a ticket will do, as it is decided before anything changes.
use Rattle.std.specs.Prelude.{◌≡◌, ℕ, ◌<◌, Bool, true, false, not, List, Option, Some, None, if◌then◌else◌}
use Rattle.machine.specs.declared.id.GroupId.{GroupId}
use Rattle.machine.specs.declared.record.Life.{Life}
use Rattle.machine.specs.declared.record.Life.TheVariants.{Live, Killed}
use Rattle.machine.specs.declared.event.Place.TheVariants.{Virtual, File}
use Rattle.machine.specs.declared.event.Op.TheVariants.{Write}
use Rattle.machine.specs.declared.event.Event.{Event}
use Rattle.machine.specs.declared.event.Event.TheVariants as event
use Rattle.machine.specs.Names.{parent_path}
use Rattle.machine.specs.Tree.{is_live, find_group}
use Rattle.machine.specs.Pages.{Residence, Held, Away, file_page}
use Rattle.machine.specs.Tasks.{task_at, lives, mapped_at}
use Rattle.machine.specs.State.{State}
use Rattle.machine.specs.Access as plain
use Rattle.machine.specs.Access.{Meeting as Met, task_pages, is_place, meets, charged_from_swap, charges}
use Rattle.machine.specs.Refusals.{refusal, number_refusal, rmdir_refusal}
use Rattle.machine.specs.declared.record.EventCounts.{EventCounts}
use Rattle.machine.specs.declared.record.Key.TheVariants as key
use Rattle.machine.specs.Counts.{with_event}
use Rattle.machine.specs.Reclaim.{stands, target_of, goal_in, has_open, has_takeable, has_transfer}
use Rattle.machine.specs.declared.id.TaskId.{TaskId}
use Rattle.oom.specs.declared.Chosen.{Chosen}
use Rattle.reclaim.specs.declared.cursors.Served.{Served}
use Rattle.machine.specs.Victim.{IsVictim, kill_group_of}
use Rattle.machine.specs.Lists.{Order, served}
use Rattle.machine.specs.History.{Spot, spot_of}
use Rattle.pages.specs.PagesOf.{Label, labelled, memory_of, HasResidence}
use Rattle.pages.specs.declared.source.Source.{Source}
use Rattle.pages.specs.declared.source.Source.TheVariants as source
use Rattle.page_state.specs.declared.room.NoRoom.{NoRoom}
use Rattle.page_state.specs.States.{StateOf}
use Rattle.page_state.specs.Changes.{HasRoom, LacksRoom, SharesPage}
use Rattle.book_events.specs.declared.event.Reply.{Reply as Given}
use Rattle.book.specs.declared.decision.PageFault.{PageFault}
use Rattle.book.specs.declared.decision.Meeting.{Meeting}
use Rattle.book.specs.declared.decision.Meeting.TheVariants as meeting
use Rattle.book.specs.declared.decision.Decision.{Decision}
use Rattle.book.specs.declared.decision.Decision.TheVariants as decision
use Rattle.book_events.specs.Spots.{offset_of, holder}
use Rattle.book_events.specs.Events.{reply_of}
use Rattle.book.specs.MakesStep.{MakesStep, GivesTicket, RepliesTo}

-- ---- accesses

-- the byte that it reaches for, and where in its page that is
abbrev pub spot_at : PageFault → Spot
spot_at fault = spot_of fault.task.0 fault.place

abbrev pub offset_at : PageFault → ℕ
offset_at fault = offset_of (spot_at fault)

-- a live task of the group reaches for a byte that is there
pub record IsFault (s : State) (fault : PageFault) : Type 0 where
  pub known : task_at s.tasks fault.task.0 ≡ Some (record { group = fault.group; life = Live })
  pub there : is_place s.opening fault.place ≡ true

-- it writes the byte to its virtual page v
pub record WritesAt (fault : PageFault) (v byte : ℕ) : Type 0 where
  pub place : fault.place ≡ Virtual v (offset_at fault)
  pub op : fault.op ≡ Write byte

-- the page that has the byte, and where it is
pub record Finds (s : State) (fault : PageFault) (p : ℕ) (residence : Residence) : Type 0 where
  pub label : Label
  pub found : holder s (spot_at fault) ≡ Some p
  pub stands : HasResidence s.pages p label residence

-- what it meets, as the machine says it
abbrev pub met_by : State → PageFault → Met
met_by s fault = meets s fault.task.0 fault.place fault.op

-- what it has read in, and the group that is charged for it: for memory the one that the placement says, and else the task's
abbrev pub MeetsSource : State → PageFault → Source → GroupId → Type 0
MeetsSource s fault (source.Swapped p) g =
    (h b : ℕ) × (g.0 ≡ charged_from_swap s.opening.placement h fault.group.0) × (met_by s fault ≡ plain.NeedsSwapIn p.0 (labelled (memory_of h) (Away b)) b) × HasResidence s.pages p.0 (memory_of h) (Away b)
MeetsSource s fault (source.File at) g =
    (met_by s fault ≡ plain.NeedsRead at.file at.page) × (fault.place ≡ File at.file at.page (offset_at fault)) × (file_page s.pages at.file at.page ≡ None) × (g ≡ fault.group)

-- what it meets, and what is known with it
abbrev pub MeetsSo : State → PageFault → Meeting → Type 0
MeetsSo s fault meeting.Unmapped = (met_by s fault ≡ plain.Unmapped) × (holder s (spot_at fault) ≡ None)
MeetsSo s fault (meeting.Hits p frame) = (finds : Finds s fault p.0 (Held frame.0)) × (met_by s fault ≡ plain.Hits p.0 (labelled finds.label (Held frame.0)) frame.0)
MeetsSo s fault meeting.Transferring = met_by s fault ≡ plain.Transferring
MeetsSo s fault (meeting.NeedsPage v byte) = (met_by s fault ≡ plain.NeedsPage v) × WritesAt fault v byte × (mapped_at s.page_tables fault.task.0 v ≡ None)
MeetsSo s fault (meeting.NeedsCopy v p byte) = (met_by s fault ≡ plain.NeedsCopy v) × WritesAt fault v byte × SharesPage s fault.task.0 v p.0
MeetsSo s fault (meeting.NeedsFetch from g) = MeetsSource s fault from g

-- the charge that it needs is granted, if it needs one; or it needs one that is not
abbrev pub HasRoomFor : State → PageFault → Type 0
HasRoomFor s fault = (g : ℕ) → charges s.opening.placement (met_by s fault) fault.group.0 ≡ Some g → HasRoom s g

abbrev pub LacksRoomFor : State → PageFault → NoRoom → Type 0
LacksRoomFor s fault why = (g : ℕ) × (charges s.opening.placement (met_by s fault) fault.group.0 ≡ Some g) × LacksRoom s g why

-- ---- decisions

-- a task in this state of its life
abbrev pub HasLife : State → ℕ → Life → Type 0
HasLife s t life = (group : GroupId) × (task_at s.tasks t ≡ Some (record { group = group; life = life }))

-- a live task's group; none where the task was killed
abbrev pub RunsIn : State → ℕ → Option GroupId → Type 0
RunsIn s t (Some group) = task_at s.tasks t ≡ Some (record { group = group; life = Live })
RunsIn s t None = HasLife s t Killed

-- for the target no page may be taken, and none under it is in transfer
pub record IsIdleFor (s : State) (target : ℕ) : Type 0 where
  pub untakeable : has_takeable s target ≡ false
  pub settled : has_transfer s target ≡ false

-- with another table of counts
abbrev pub with_counted : StateOf → List EventCounts → StateOf
with_counted s counted = record s { tables = record (s.tables) { counted = counted } }

-- the table for a page of the group that is served
abbrev pub counted_for : State → Served → List EventCounts
counted_for s found = if found.low_reclaim then with_event s.counted found.group.0 key.Low else s.counted

-- what is known of a decision, whatever event it is for
abbrev pub IsSound : State → Order → Decision → Type 0
IsSound s order (decision.Access fault met) = IsFault s fault × MeetsSo s fault met × HasRoomFor s fault
IsSound s order (decision.Lacks fault why) = IsFault s fault × LacksRoomFor s fault why
IsSound s order (decision.Take goal target found) = (is_live s.tree target.0 ≡ true) × (served s order goal target.0 ≡ Some found.group.0) × (has_takeable s target.0 ≡ true) × (is_live s.tree found.group.0 ≡ true) × (found.low_reclaim ≡ not (has_open s target.0))
IsSound s order (decision.Kill limit t) =
    (is_live s.tree limit.0 ≡ true) × IsIdleFor s limit.0 × IsVictim s.tree s.tasks s.page_tables limit.0 (Some t.0) × (kill_group_of s.tree s.flags s.tasks limit.0 t.0 ≡ None)
IsSound s order (decision.KillAll limit victim h) =
    (is_live s.tree limit.0 ≡ true) × IsIdleFor s limit.0 × IsVictim s.tree s.tasks s.page_tables limit.0 (Some victim.0) × (kill_group_of s.tree s.flags s.tasks limit.0 victim.0 ≡ Some h.0)
IsSound s order (decision.NoVictim limit) = (is_live s.tree limit.0 ≡ true) × IsIdleFor s limit.0 × IsVictim s.tree s.tasks s.page_tables limit.0 None
IsSound s order (decision.Fork t child) = HasLife s t.0 Live × (number_refusal s.tasks child.0 ≡ None)
IsSound s order (decision.Free t at) = HasLife s t.0 Live × (at < task_pages)
IsSound s order (decision.Attach t g) = (lives s.tasks t.0 ≡ true) × (is_live s.tree g.0 ≡ true)
IsSound s order (decision.Exit t) = HasLife s t.0 Live
IsSound s order (decision.Mkdir parent path) = (find_group s.tree (parent_path path.now) ≡ Some parent.0) × (is_live s.tree parent.0 ≡ true)
IsSound s order (decision.Rmdir g) = rmdir_refusal s g.0 ≡ None
IsSound s order other = Unit {0}

-- an event of a task that was killed
abbrev pub IsOfKilled : State → Event → Type 0
IsOfKilled s (event.Access t place op) = HasLife s t.0 Killed
IsOfKilled s (event.Fork t child) = HasLife s t.0 Killed
IsOfKilled s (event.Free t v) = HasLife s t.0 Killed
IsOfKilled s (event.Exit t) = HasLife s t.0 Killed
IsOfKilled s what = ⊥

-- the event asks for a page of the target
abbrev pub AsksPage : State → Event → ℕ → Type 0
AsksPage s (event.Relieve cause) target = (stands s cause ≡ true) × (target_of cause ≡ target)
AsksPage s (event.ReclaimOne g) target = g.0 ≡ target
AsksPage s what target = ⊥

-- relief that is wanted under the limit
abbrev pub WantsRoom : State → Event → ℕ → Type 0
WantsRoom s (event.Relieve cause) limit = (stands s cause ≡ true) × (target_of cause ≡ limit)
WantsRoom s what limit = ⊥

-- relief that is not wanted any more
abbrev pub HasItsRoom : State → Event → Type 0
HasItsRoom s (event.Relieve cause) = stands s cause ≡ false
HasItsRoom s what = ⊥

-- a reclaim that is no relief, where there is nothing
abbrev pub FindsNothing : State → Event → Type 0
FindsNothing s (event.ReclaimOne g) = IsIdleFor s g.0
FindsNothing s what = ⊥

-- the decision is one for this event
abbrev pub Fits : State → Event → Decision → Type 0
Fits s what decision.Killed = IsOfKilled s what
Fits s what (decision.Access fault met) = what ≡ event.Access fault.task fault.place fault.op
Fits s what (decision.Lacks fault why) = what ≡ event.Access fault.task fault.place fault.op
Fits s what decision.Room = HasItsRoom s what
Fits s what (decision.Take goal target found) = AsksPage s what target.0 × (goal_in what ≡ goal)
Fits s what decision.Wait = (target : ℕ) × AsksPage s what target × (has_takeable s target ≡ false) × (has_transfer s target ≡ true)
Fits s what decision.Nothing = FindsNothing s what
Fits s what (decision.Kill limit t) = WantsRoom s what limit.0
Fits s what (decision.KillAll limit victim h) = WantsRoom s what limit.0
Fits s what (decision.NoVictim limit) = WantsRoom s what limit.0
Fits s what (decision.Spawn t g) = what ≡ event.Spawn t g
Fits s what (decision.Fork t child) = what ≡ event.Fork t child
Fits s what (decision.Free t at) = what ≡ event.Free t at
Fits s what (decision.Attach t g) = what ≡ event.Attach t g
Fits s what (decision.Exit t) = what ≡ event.Exit t
Fits s what (decision.Mkdir parent path) = what ≡ event.Mkdir path.now
Fits s what (decision.Rmdir g) = what ≡ event.Rmdir g
Fits s what (decision.Set g setting) = what ≡ event.Set g setting
Fits s what (decision.Show query) = what ≡ event.Show query

-- an event that nothing refuses, and what it will do
pub record IsDecided (s : StateOf) (what : Event) (decided : Decision) : Type 0 where
  pub none : refusal s.tables what ≡ None
  pub sound : IsSound s.tables s.order decided
  pub fits : Fits s.tables what decided

-- how the chosen task dies: alone, or with its group
abbrev pub kill_with : GroupId → TaskId → Option GroupId → Decision
kill_with limit victim None = decision.Kill limit victim
kill_with limit victim (Some h) = decision.KillAll limit victim h

abbrev pub kill_of : GroupId → Chosen → Decision
kill_of limit chosen = kill_with limit chosen.victim chosen.group

-- ---- what it needs

-- how many entries of the trace: two where a transfer begins, one of them for its end, or a page is dropped
abbrev pub entries_for : Decision → ℕ
entries_for (decision.Access fault (meeting.NeedsFetch from g)) = 2
entries_for (decision.Take goal target found) = 2
entries_for other = 1

-- whether it makes something, and so may want memory: a group, a task, or what the bytes of a read-in arrive in
abbrev pub makes : Decision → Bool
makes (decision.Access fault (meeting.NeedsFetch from g)) = true
makes (decision.Spawn t g) = true
makes (decision.Fork t child) = true
makes (decision.Mkdir parent path) = true
makes other = false

-- ---- what comes of it

-- the answer to an event, with the ticket that it gives out
pub record AnswersTo (old : StateOf) (what : Event) (said : Given) (new : StateOf) : Type 0 where
  pub makes_step : MakesStep old what (reply_of said) new
  pub gives : GivesTicket new said
  pub replies : RepliesTo what said

-- the answer to every event that the decision is one for
abbrev pub Carries : StateOf → Decision → Given → StateOf → Type 0
Carries old decided said new = (what : Event) → IsDecided old what decided → AnswersTo old what said new
