-- The headline in the words of its users: what holds of every step and of every run.
use Rattle.std.specs.Prelude.{◌≡◌, ◌≢◌, ◌⊎◌, ℕ, ◌+◌, ◌<◌, ◌≤◌, ◌==◌, ◌&&◌, not, nat_lt, if◌then◌else◌, MatchBool, Bool, true, false, List, [], ◌∷◌, ◌++◌, length, sum_by, Ok, Err, Option, Some, None, slice_get, slice_set}
use Rattle.std.specs.List.{AllByRecursion, list_any}
use Rattle.machine.specs.declared.amount.Amount.TheVariants.{Pages}
use Rattle.machine.specs.declared.config.Config.{Config}
use Rattle.machine.specs.declared.config.Placement.{Placement}
use Rattle.machine.specs.declared.config.Placement.TheVariants.{Own, Linux}
use Rattle.machine.specs.declared.entry.Entry.{Entry}
use Rattle.machine.specs.declared.id.FrameId.{FrameId}
use Rattle.machine.specs.declared.id.GroupId.{GroupId}
use Rattle.machine.specs.declared.id.TaskId.{TaskId}
use Rattle.machine.specs.declared.event.Cause.{Cause}
use Rattle.machine.specs.declared.event.Goal.{Goal}
use Rattle.machine.specs.declared.event.Op.{Op}
use Rattle.machine.specs.declared.event.Place.{Place}
use Rattle.machine.specs.declared.event.Place.TheVariants as place
use Rattle.machine.specs.declared.event.Setting.{Setting}
use Rattle.machine.specs.declared.event.Setting.TheVariants as setting
use Rattle.machine.specs.declared.event.Query.TheVariants as query
use Rattle.machine.specs.declared.event.Event.{Event}
use Rattle.machine.specs.declared.event.Event.TheVariants as event
use Rattle.machine.specs.declared.record.EventCounts.{EventCounts}
use Rattle.machine.specs.declared.record.MemoryStat.{MemoryStat}
use Rattle.machine.specs.declared.record.Kind.{Kind}
use Rattle.machine.specs.declared.record.Key.{Key}
use Rattle.machine.specs.declared.record.Key.TheVariants as key
use Rattle.machine.specs.declared.record.Life.TheVariants.{Killed}
use Rattle.machine.specs.declared.record.Guard.{Guard}
use Rattle.machine.specs.declared.record.Limits.{Limits}
use Rattle.machine.specs.declared.record.OomGroup.TheVariants.{Single}
use Rattle.machine.specs.declared.reply.Reply.{Reply}
use Rattle.machine.specs.declared.reply.Reply.TheVariants as reply
use Rattle.machine.specs.declared.reply.Shown.TheVariants as shown
use Rattle.machine.specs.declared.command.Actor.{Actor}
use Rattle.machine.specs.declared.command.Step.{Step as Line}
use Rattle.machine.specs.declared.command.Reply.{Reply as Told_by}
use Rattle.machine.specs.Slots.{there_and, count_there}
use Rattle.machine.specs.Amounts.{exceeds}
use Rattle.machine.specs.Counts.{no_limits, limits_at, guard_of, count_of_key, with_event, local, total, Counted, how_often}
use Rattle.machine.specs.Tree.{Node, node_at, is_child, is_live, children, under, preorder}
use Rattle.machine.specs.Pages.{OfFile, Residence, Away, Page, page_at, is_anon, is_held, frame_at, block_at, ticket_at, is_in_transfer, is_charged, is_number, in_transfer, used_frames, used_swap, file_page, IsFiled}
use Rattle.machine.specs.Tasks.{Tasks, task_at, task_of, lives, group_of_task, mapped_at, size_of}
use Rattle.machine.specs.State.{Opening, State, page_numbers, usage, effective_in, effective_min, effective_low, is_swap_free, opening_of, blocks_of}
use Rattle.machine.specs.Reclaim.{is_takeable, is_idle, target_of, goal_in}
use Rattle.machine.specs.Generations.{row_of, listed, gens_at, AreDistinct}
use Rattle.machine.specs.Aging.{is_marked, has_mark}
use Rattle.machine.specs.Eviction.{old_pages}
use Rattle.machine.specs.Order.{cursor_at, heeds_age, takes_parts, in_turn, asking_order}
use Rattle.machine.specs.Lists.{HeldLists, hits_at, kind_at, Youngest, gives, gives_old, served, cursor_served, PicksOf, ListsHeld, AreGenerations, generation_for, GoesOn, shown_at, is_in_bits, is_last_hit, MergesMarks, with_group, RemovesLists}
use Rattle.machine.specs.Victim.{flag_at, is_live_under, is_candidate, is_flagged}
use Rattle.machine.specs.Refusals.{refusal}
use Rattle.machine.specs.Step.{Step}
use Rattle.machine.specs.Call.{Past, Caller, Called, AreAlike}
use Rattle.machine.specs.Legal.{Legal}
use Rattle.machine.specs.FirstBytes.{first_of}
use Rattle.machine.specs.Audit.{Passes}
use Rattle.machine.specs.Transfers.{transfers_begun, transfers_ended}
use Rattle.machine.specs.Events.{took_for, AreCounted}
use Rattle.machine.specs.History.{Spot, InTask, at_first, last, Right, IsRight, Honest}
use Rattle.machine.specs.declared.command.Answer.TheVariants as answer
use Rattle.machine.specs.declared.command.Word.TheVariants as word
use Rattle.machine.specs.declared.refusal.Refusal.TheVariants.{Stranger, NoMemory}
use Rattle.block_store.specs.Device.{Disk}
use Rattle.turns.specs.declared.turn.Stage.{Stage}
use Rattle.turns.specs.declared.turn.Stage.TheVariants as stage
use Rattle.turns.specs.Turns.{Judged, judged, marks_by}
use Rattle.driver.specs.declared.seat.Outcome.{Outcome}
use Rattle.driver.specs.declared.seat.Activity.{Activity}
use Rattle.driver.specs.declared.seat.Activity.TheVariants.{Rests, Begun, Does}
use Rattle.driver.specs.declared.seat.Seat.{Seat}
use Rattle.driver.specs.Schedule.{World, first_world, activity_of, Turn, Runs, files_on, fits, errors}
use Rattle.driver.specs.Hands.{errors_owed, tickets_in_hand}

-- the history of every run leads from the opening to the run's state, one step of the machine an entry
abbrev pub RunsAreLegal : Type 0
RunsAreLegal =
    (config : Config) (before : Disk) (steps : List Line) (answers : List Told_by) (end : World) → Runs (first_world config before) steps answers end
    → Legal (opening_of config) end.past.history end.past.state

-- over a device that has the blocks, and that keeps its promise, every page that was read in brought what was last written, or what the device had for a file at first
abbrev pub RunsAreHonest : Type 0
RunsAreHonest =
    (config : Config) (before : Disk) (steps : List Line) (answers : List Told_by) (end : World) → fits config before ≡ true → Runs (first_world config before) steps answers end
    → Honest (at_first (files_on config before)) end.past.history

-- no answer of a run is that a ticket was none of its holder's
abbrev pub NoStrangers : Type 0
NoStrangers =
    (config : Config) (before : Disk) (steps : List Line) (answers : List Told_by) (end : World) → Runs (first_world config before) steps answers end
    → (k : ℕ) (told : Told_by) → slice_get answers k ≡ Some told → told.answer ≡ answer.Word (word.Refused Stranger) → ⊥

-- an error of the device is answered only where a call of it failed: at most as often
abbrev pub ErrorsAreFailures : Type 0
ErrorsAreFailures =
    (config : Config) (before : Disk) (steps : List Line) (answers : List Told_by) (end : World) → Runs (first_world config before) steps answers end
    → errors answers + before.failures ≤ end.disk.failures

-- the errors of the device that are answered, and those that commands under way still owe, are together as many as its calls that failed. (Excludes a failure that nobody is told of, and one
-- that is told twice.)
abbrev pub EachFailureIsAnswered : Type 0
EachFailureIsAnswered =
    (config : Config) (before : Disk) (steps : List Line) (answers : List Told_by) (end : World) → Runs (first_world config before) steps answers end
    → errors answers + errors_owed end.seats + before.failures ≡ end.disk.failures

-- whatever a run led to, as many pages are in transfer as commands have a ticket in hand. (Excludes a page that stays in transfer when its command has ended, and a second transfer of one
-- command beside its first.)
abbrev pub TransfersAreInHand : Type 0
TransfersAreInHand =
    (config : Config) (before : Disk) (steps : List Line) (answers : List Told_by) (end : World) → Runs (first_world config before) steps answers end
    → in_transfer end.past.state.pages ≡ tickets_in_hand end.seats

-- no actor has a command that is not answered
abbrev pub AllRest : List Seat → Type 0
AllRest seats = AllByRecursion (λ (seat : Seat). seat.activity ≡ Rests) seats

-- a page is on its block alone
abbrev pub is_away_at : Residence → Bool
is_away_at (Away block) = true
is_away_at residence = false

abbrev pub is_away : Page → Bool
is_away page = is_away_at page.residence

-- where each command is answered nothing is in transfer; the frames in use are those of held pages, and the swap blocks in use those of pages that are on their block alone. (Excludes a
-- frame or a swap block that a failed call leaves behind.)
abbrev pub NothingIsLeft : Type 0
NothingIsLeft =
    (config : Config) (before : Disk) (steps : List Line) (answers : List Told_by) (end : World) → Runs (first_world config before) steps answers end → AllRest end.seats
    → (in_transfer end.past.state.pages ≡ 0)
    × (used_frames end.past.state.pages ≡ count_there is_held end.past.state.pages)
    × (used_swap end.past.state.pages ≡ count_there is_away end.past.state.pages)

-- memory.current counts the pages with frames at or under the group
abbrev pub CurrentCountsPages : Type 0
CurrentCountsPages =
    (before after : State) (g n : ℕ) → Step before (event.Show (query.Current (record { 0 = g }))) (reply.Shown (shown.Pages n)) after → n ≡ usage before g

-- of each key memory.events shows how often it was counted at or under the group, and memory.events.local how often at the group itself
abbrev pub EventsAreThoseCounted : Type 0
EventsAreThoseCounted =
    (before after : State) (g : ℕ) (counts : EventCounts) (key : Key)
    → (Step before (event.Show (query.Events (record { 0 = g }))) (reply.Shown (shown.Events counts)) after → count_of_key counts key ≡ total before.tree before.counted g key)
    × (Step before (event.Show (query.EventsLocal (record { 0 = g }))) (reply.Shown (shown.Events counts)) after → count_of_key counts key ≡ local before.counted g key)

-- by group and key the table has as many as events were counted, entry by entry: what the cases of its steps name, in the states that the history leads through, and nothing else. There is
-- such a list of events, and the table tells each that there is. (Excludes a count that an event adds at another group, or twice, or that goes with its group.)
abbrev pub CountsAreOfTheHistory : Type 0
CountsAreOfTheHistory =
    (opening : Opening) (history : List Entry) (s : State) → Legal opening history s
    → ((events : List Counted) × AreCounted opening history s events)
    × ((events : List Counted) → AreCounted opening history s events → (g : ℕ) (what : Key) → local s.counted g what ≡ how_often events g what)

-- an access that leaves more pages charged under a group leaves no more than the group's max
abbrev pub ChargesStayWithinMax : Type 0
ChargesStayWithinMax =
    (before after : State) (t : ℕ) (place : Place) (op : Op) (answer : Reply) (a : ℕ) → Step before (event.Access (record { 0 = t }) place op) answer after
    → usage before a < usage after a → exceeds (usage after a) (limits_at after.limits a).max ≡ false

-- beginning to write a page out leaves every group's count as it was, whoever wanted it. (Excludes a charge that is given back before the page has left.)
abbrev pub WriteOutsStayCharged : Type 0
WriteOutsStayCharged = (before after : State) (what : Event) (n a : ℕ) → Step before what (reply.Out (record { 0 = n })) after → usage after a ≡ usage before a

-- the event is an access
abbrev pub IsAccess : Event → Type 0
IsAccess (event.Access t place op) = Unit {0}
IsAccess what = ⊥

-- in whatever state a legal history ends, no other event leaves more pages charged under a group
abbrev pub OnlyAccessesCharge : Type 0
OnlyAccessesCharge =
    (opening : Opening) (history : List Entry) (before after : State) (what : Event) (answer : Reply) (a : ℕ) → Legal opening history before → Step before what answer after
    → usage before a < usage after a → IsAccess what

-- the task that a relief's answer names as its victim, which dies alone or with its group
abbrev pub victim_in : Reply → Option ℕ
victim_in (reply.KilledTask t) = Some t.0
victim_in (reply.KilledAll victim h tasks) = Some victim.0
victim_in answer = None

-- a task is killed only where nothing could be reclaimed under the limit group, and only a live one of a group at or under it; and so is each that dies with it
abbrev pub KillsComeLast : Type 0
KillsComeLast =
    (before after : State) (why : Cause) (answer : Reply) (victim : ℕ) → victim_in answer ≡ Some victim → Step before (event.Relieve why) answer after
    → (is_idle before (target_of why) ≡ true) × (is_candidate before.tree before.tasks (target_of why) victim ≡ true)
    × ((opening : Opening) (history : List Entry) (t : ℕ) → Legal opening history before → lives before.tasks t ≡ true → lives after.tasks t ≡ false → is_candidate before.tree before.tasks (target_of why) t ≡ true)

-- the task that is killed, alone or with its group, is a live one of a group at or under the limit group. Of all these none has more mappings, and none that has as many has a lesser number.
-- (Excludes a kill of a smaller task, of one outside the limit group though it is larger, and of the one with the greater number of two that are equally large.)
abbrev pub VictimsHaveTheMostPages : Type 0
VictimsHaveTheMostPages =
    (before after : State) (why : Cause) (answer : Reply) (victim : ℕ) → victim_in answer ≡ Some victim → Step before (event.Relieve why) answer after
    → (is_candidate before.tree before.tasks (target_of why) victim ≡ true)
    × ((t : ℕ) → is_candidate before.tree before.tasks (target_of why) t ≡ true → size_of before.page_tables t ≤ size_of before.page_tables victim)
    × ((t : ℕ) → is_candidate before.tree before.tasks (target_of why) t ≡ true → size_of before.page_tables t ≡ size_of before.page_tables victim → victim ≤ t)

-- a kill of a group: all tasks that lived at or under it are killed and show nothing any more, the victim among them, and they are so many; no other task changes, or what it shows. The group is at
-- or under the limit, has the flag, and is the highest that has it of those from the victim's up to the limit, this counted
pub record IsWholeKill (before : State) (limit victim h tasks : ℕ) (after : State) : Type 0 where
  pub killed : (t : ℕ) → is_candidate before.tree before.tasks h t ≡ true → task_at after.tasks t ≡ Some (task_of (group_of_task before.tasks t) Killed)
  pub shown : (t v : ℕ) → is_candidate before.tree before.tasks h t ≡ true → mapped_at after.page_tables t v ≡ None
  pub nobody : (t : ℕ) → is_candidate after.tree after.tasks h t ≡ false
  pub others : (t : ℕ) → is_candidate before.tree before.tasks h t ≡ false → task_at after.tasks t ≡ task_at before.tasks t
  pub kept : (t v : ℕ) → is_candidate before.tree before.tasks h t ≡ false → mapped_at after.page_tables t v ≡ mapped_at before.page_tables t v
  pub many : tasks ≡ count_there (is_live_under before.tree h) before.tasks
  pub among : is_candidate before.tree before.tasks h victim ≡ true
  pub flagged : is_flagged before.flags h ≡ true
  pub within : under before.tree limit h ≡ true
  pub highest : (a : ℕ) → under before.tree limit a ≡ true → under before.tree a h ≡ true → a ≢ h → is_flagged before.flags a ≡ false

-- in whatever state a legal history ends, a kill of a group is whole. (Excludes a group of which some die and some live, tasks outside it that die, the flag of a group above the limit, and the lower of two
-- that have it.)
abbrev pub GroupKillsAreWhole : Type 0
GroupKillsAreWhole =
    (opening : Opening) (history : List Entry) (before after : State) (why : Cause) (victim h tasks : ℕ) → Legal opening history before
    → Step before (event.Relieve why) (reply.KilledAll (record { 0 = victim }) (record { 0 = h }) tasks) after → IsWholeKill before (target_of why) victim h tasks after

-- a task is killed alone only where no group from its own up to the limit, both counted, has the flag; and then no other task changes. (Excludes a group with the flag whose tasks are killed one by one.)
abbrev pub SingleKillsAreUnflagged : Type 0
SingleKillsAreUnflagged =
    (opening : Opening) (history : List Entry) (before after : State) (why : Cause) (victim : ℕ) → Legal opening history before → Step before (event.Relieve why) (reply.KilledTask (record { 0 = victim })) after
    → ((a : ℕ) → under before.tree (target_of why) a ≡ true → under before.tree a (group_of_task before.tasks victim) ≡ true → is_flagged before.flags a ≡ false)
    × ((t : ℕ) → t ≢ victim → task_at after.tasks t ≡ task_at before.tasks t)

-- what a kill counts: `oom` once at the limit; `oom_kill` at each group as often as tasks of it are killed; `oom_group_kill` once at the group that is killed, and nowhere where a task dies alone;
-- and nothing else
pub record CountsKill (before : State) (limit : ℕ) (killed_in : ℕ → ℕ) (group : Option ℕ) (after : State) : Type 0 where
  pub oom : (g : ℕ) → local after.counted g key.Oom ≡ local before.counted g key.Oom + (if limit == g then 1 else 0)
  pub oom_kill : (g : ℕ) → local after.counted g key.OomKill ≡ local before.counted g key.OomKill + killed_in g
  pub oom_group_kill : (g : ℕ) → local after.counted g key.OomGroupKill ≡ local before.counted g key.OomGroupKill + (if is_number group g then 1 else 0)
  pub low : (g : ℕ) → local after.counted g key.Low ≡ local before.counted g key.Low
  pub high : (g : ℕ) → local after.counted g key.High ≡ local before.counted g key.High
  pub max : (g : ℕ) → local after.counted g key.Max ≡ local before.counted g key.Max

-- by Linux's placement the victim of a group's kill is counted twice at its group
abbrev pub counted_again : Placement → Tasks → ℕ → ℕ → ℕ
counted_again Own tasks victim g = 0
counted_again Linux tasks victim g = if group_of_task tasks victim == g then 1 else 0

-- in whatever state a legal history ends, a kill of a task counts that one task, at its group, and a kill of a group each of its tasks, at the task's own: once, but the victim twice by Linux's placement.
-- (Excludes a victim that is counted twice by our own placement, tasks that are counted as one, or at the group that is killed, and a group's kill that is counted at the limit, or for each task.)
abbrev pub KillsAreCounted : Type 0
KillsAreCounted =
    (opening : Opening) (history : List Entry) (before after : State) (why : Cause) → Legal opening history before
    → ((t : ℕ) → Step before (event.Relieve why) (reply.KilledTask (record { 0 = t })) after
    → CountsKill before (target_of why) (λ g. if group_of_task before.tasks t == g then 1 else 0) None after)
    × ((victim h tasks : ℕ) → Step before (event.Relieve why) (reply.KilledAll (record { 0 = victim }) (record { 0 = h }) tasks) after
    → CountsKill before (target_of why)
    (λ g. count_there (λ task. is_live_under before.tree h task && (task.group.0 == g)) before.tasks + counted_again before.opening.placement before.tasks victim g) (Some h) after)

-- one page stood in its frame and is taken from there, and no other changes. Its group is at or under the target, and is the target itself, or used more than its effective min
-- for a reclaim of the target
pub record TakesUnprotected (before : State) (target : ℕ) (after : State) : Type 0 where
  pub p : ℕ
  pub page : Page
  pub there : page_at before.pages p ≡ Some page
  pub held : is_held page ≡ true
  pub leaves : there_and is_held (page_at after.pages p) ≡ false
  pub others : (q : ℕ) → q ≢ p → page_at after.pages q ≡ page_at before.pages q
  pub below : under before.tree target page.group ≡ true
  pub unprotected : (page.group ≡ target) ⊎ (exceeds (usage before page.group) (effective_min before target page.group) ≡ true)

-- a reclaim takes from its target, and from a group below it only what that uses beyond its effective memory.min. (Excludes a page of a group within its protection.)
abbrev pub ReclaimsSpareTheProtected : Type 0
ReclaimsSpareTheProtected =
    (before after : State) (what : Event) (answer : Reply) (target : ℕ) → took_for what answer ≡ Some target → Step before what answer after → TakesUnprotected before target after

-- the group is below the target, and uses no more than its effective low for a reclaim of the target
abbrev pub IsWithinLow : State → ℕ → ℕ → Type 0
IsWithinLow s target g = (g ≢ target) × (exceeds (usage s g) (effective_low s target g) ≡ false)

-- the page stood in its frame and is taken from there
abbrev pub IsTaken : State → ℕ → Page → State → Type 0
IsTaken before p page after = (page_at before.pages p ≡ Some page) × (is_held page ≡ true) × (there_and is_held (page_at after.pages p) ≡ false)

-- a page of a group within its effective memory.low is taken only where each page that may be taken is of such a group. (Excludes a page that its group's low protects, taken while another is
-- left that no low protects: of a group beside it, or of the target itself.)
abbrev pub LowsComeLast : Type 0
LowsComeLast =
    (before after : State) (what : Event) (answer : Reply) (target p : ℕ) (page : Page) → took_for what answer ≡ Some target → Step before what answer after → IsTaken before p page after → IsWithinLow before target page.group
    → (q : ℕ) (other : Page) → page_at before.pages q ≡ Some other → is_takeable before target other ≡ true → IsWithinLow before target other.group

-- where a page of a group within its low is taken, `low` is counted at that group, once, and nothing else is; where any other page is taken nothing is counted; and no other event counts
-- `low`. (Excludes a count at the target, a count for each group that is passed over, and low that is counted for a kill.)
abbrev pub LowsAreCounted : Type 0
LowsAreCounted =
    (before after : State) (what : Event) (answer : Reply) → Step before what answer after
    → ((target p : ℕ) (page : Page) → took_for what answer ≡ Some target → IsTaken before p page after
    → (IsWithinLow before target page.group → after.counted ≡ with_event before.counted page.group key.Low)
    × ((page.group ≡ target) ⊎ (exceeds (usage before page.group) (effective_low before target page.group) ≡ true) → after.counted ≡ before.counted))
    × (took_for what answer ≡ None → (g : ℕ) → local after.counted g key.Low ≡ local before.counted g key.Low)

-- where a task is killed, alone or with its group, nothing could be reclaimed whatever the groups' lows were: with other lows neither. (Excludes a kill for a page that a low protects.)
abbrev pub LowsKillNobody : Type 0
LowsKillNobody =
    (before after : State) (why : Cause) (answer : Reply) (victim : ℕ) (others : List Limits) → victim_in answer ≡ Some victim → Step before (event.Relieve why) answer after → ((g : ℕ) → (limits_at others g).min ≡ (limits_at before.limits g).min)
    → is_idle (record before { limits = others }) (target_of why) ≡ true

-- what a group below the target has of protection is shared out below it, and no more than that: where its effective min, or low, is a number of pages, so is that of each of its live
-- children, and together these are at most that number, with recursive protection and without. (Excludes a part that is rounded up, a rest that is shared out by what a child uses at all, and children
-- that have what they ask for where together they ask for more than there is.)
abbrev pub SharesStayWithin : Type 0
SharesStayWithin =
    (opening : Opening) (history : List Entry) (s : State) (guard : Guard) (target p most : ℕ) → Legal opening history s → under s.tree target p ≡ true → p ≢ target
    → effective_in s guard target p ≡ Pages most
    → (share : ℕ → ℕ) × ((g : ℕ) → is_child p (node_at s.tree g) ≡ true → effective_in s guard target g ≡ Pages (share g)) × (sum_by share (children s.tree p) ≤ most)

-- a reclaim finds nothing only where nothing can be taken for its target and no page under it is in transfer, and it leaves all as it was
abbrev pub ReclaimsGiveUpLast : Type 0
ReclaimsGiveUpLast = (before after : State) (g : ℕ) → Step before (event.ReclaimOne (record { 0 = g })) reply.Nothing after → (is_idle before g ≡ true) × (after ≡ before)

-- nobody is killed for a reclaim that no charge asks for: none is answered by a kill, of a task or of a group, and no task changes
abbrev pub ReclaimsKillNobody : Type 0
ReclaimsKillNobody =
    (before after : State) (g : GroupId) (answer : Reply) → Step before (event.ReclaimOne g) answer after
    → (victim_in answer ≡ None) × (after.tasks ≡ before.tasks)

-- whatever a run leads to, each page that is in a frame and in no transfer is once on the lists of its group and type, and no other page is on a list, or marked.
-- (Excludes a page on the lists of a group that is not charged for it, and a mark that outlives its page.)
abbrev pub HeldPagesAreListed : Type 0
HeldPagesAreListed =
    (config : Config) (before : Disk) (steps : List Line) (answers : List Told_by) (end : World) → Runs (first_world config before) steps answers end
    → ListsHeld end.past.state.pages end.past.order.held × ((g : ℕ) → AreDistinct (listed (gens_at end.past.order.held.groups g)))

-- as many groups have lists as there are, each of two to four generations of a type, by rising number; and there is a mark for each number of a page
pub record HoldsGenerations (past : Past) : Type 0 where
  pub sound : AreGenerations past.order.held
  pub groups : length past.order.held.groups ≡ length past.state.tree
  pub marks : length past.order.held.marks ≡ page_numbers past.state.opening

-- so it is whatever a run leads to. (Excludes a group whose oldest generation is its youngest, and a page whose generation has ended or has not begun.)
abbrev pub GenerationsHold : Type 0
GenerationsHold =
    (config : Config) (before : Disk) (steps : List Line) (answers : List Told_by) (end : World) → Runs (first_world config before) steps answers end
    → HoldsGenerations end.past

-- whatever a run leads to, each group has a cursor of its own, as the target of a reclaim. (Excludes a target with no place in the table of
-- cursors, for which `slice_set` would change nothing, so that each pass would begin at it.)
abbrev pub GroupsHaveCursors : Type 0
GroupsHaveCursors =
    (config : Config) (before : Disk) (steps : List Line) (answers : List Told_by) (end : World) → Runs (first_world config before) steps answers end
    → length end.past.order.cursors ≡ length end.past.state.tree

-- how the lists go on where no page is taken. A group more begins with no page. The pages of a group that goes are on its parent's lists, in the second youngest generation behind those
-- that are there, the oldest first, and marked as they were. Marks that are merged move no page. Otherwise what is held no more leaves its list, all others stay as they
-- stood, marked as they were, and what comes to be held, one page at most, enters a generation of its group: where it was read in, the one that the placement says, and else the
-- youngest
abbrev pub ListsGoOn : Past → Event → Reply → Past → Type 0
ListsGoOn before (event.Mkdir path) answer after = after.order.held ≡ with_group before.order.held
ListsGoOn before (event.Rmdir g) answer after = RemovesLists (node_at before.state.tree g.0).parent g.0 before.order after.order
ListsGoOn before (event.MergeMarks word bits) answer after = MergesMarks before.state.opening.placement before.state.pages word bits before.order.held after.order.held
ListsGoOn before what answer after = GoesOn (generation_for before.state.opening.placement what) before.state.pages before.order.held after.state.pages after.order.held

-- so it is in every call that changes anything and takes no page. (Excludes lists whose order is made up anew, a page that comes to be held before another of its generation,
-- one that comes marked, and one that is on no list when its group has gone.)
abbrev pub HeldPagesGoOn : Type 0
HeldPagesGoOn =
    (before after : Past) (caller : Caller) (what : Event) (answer : Reply) → took_for what answer ≡ None → Called before caller what answer after → (after ≡ before) ⊎ ListsGoOn before what answer after

-- of each group and type the youngest generation, and the oldest, is what it was. What is no group's number has the numbers of a new group
abbrev pub KeepNumbers : HeldLists → HeldLists → Type 0
KeepNumbers held held' =
    (g : ℕ) → ((gens_at held'.groups g).max_seq ≡ (gens_at held.groups g).max_seq) × ((kind : Kind) → (row_of kind (gens_at held'.groups g)).min_seq ≡ (row_of kind (gens_at held.groups g)).min_seq)

-- no generation begins or ends in a call that takes no page. (Excludes lists that age with time, or at a hit, and a reclaim that finds nothing and ages them.)
abbrev pub OnlyTakesAge : Type 0
OnlyTakesAge =
    (before after : Past) (caller : Caller) (what : Event) (answer : Reply) → took_for what answer ≡ None → Called before caller what answer after → KeepNumbers before.order.held after.order.held

-- the newest entry of a past says that the task's access to this place used its page as it is, in a frame
pub record Hits (before after : Past) (t : TaskId) (place : Place) : Type 0 where
  pub entry : Entry
  pub newest : after.history ≡ entry ∷ before.history
  pub op : Op
  pub asked : entry.event ≡ event.Access t place op
  pub byte : ℕ
  pub frame : FrameId
  pub answered : entry.reply ≡ reply.Done byte (Some frame)

-- where the turn of an actor that is at this takes its command on: where that stands, or where it begins
abbrev pub begins_at : Judged → Option Stage
begins_at (Ok stage) = Some stage
begins_at (Err why) = None

abbrev pub stage_at : World → Actor → Activity → Option Stage
stage_at w who Rests = None
stage_at w who (Begun what) = begins_at (judged w.past.state.opening w.past.state.tree who what)
stage_at w who (Does stage) = Some stage

-- a hit there counts: by our own placement each does, and as Linux places pages each but that of an access to a file that had its page read in
abbrev pub leaves_hit : Placement → Option Stage → Bool
leaves_hit placement (Some (stage.Try access)) = marks_by placement access
leaves_hit placement at = true

abbrev pub counts_in : Config → World → Actor → Bool
counts_in config w who = leaves_hit config.placement (stage_at w who (activity_of who w.seats))

-- and the next one marks the page that the place shows, after those that it has had: by our own placement each does, and as Linux places pages the fifth of a page of a file
abbrev pub marks_next : Placement → Past → Option ℕ → Bool
marks_next placement past None = false
marks_next placement past (Some p) = there_and (λ page. is_last_hit placement (kind_at page.content) (hits_at past.order.held.hits p)) (page_at past.state.pages p)

abbrev pub marks_in : Config → World → Actor → TaskId → Place → Bool
marks_in config w who t place = counts_in config w who && marks_next config.placement w.past (shown_at w.past.state t.0 place)

-- whatever a run led to, the turn of an access that is answered by a hit leaves the page that its place shows marked, where it leaves a mark. (Excludes a page that was used and is
-- evicted as if it were not.)
abbrev pub HitsMark : Type 0
HitsMark =
    (config : Config) (before : Disk) (steps : List Line) (answers : List Told_by) (end : World) → Runs (first_world config before) steps answers end
    → (who : Actor) (outcome : Outcome) (after : World) → Turn end who outcome after → (t : TaskId) (place : Place) → Hits end.past after.past t place
    → marks_in config end who t place ≡ true → (p : ℕ) × (shown_at end.past.state t.0 place ≡ Some p) × (is_marked after.past.order.held.marks p ≡ true)

-- and no turn marks a page otherwise. (Excludes a page that is marked as it is made, copied or read in, one that a search marks, another page of the hit's word, and, as Linux places
-- pages, a page of a file that counts as used because it came.)
abbrev pub OnlyHitsMark : Type 0
OnlyHitsMark =
    (config : Config) (before : Disk) (steps : List Line) (answers : List Told_by) (end : World) → Runs (first_world config before) steps answers end
    → (who : Actor) (outcome : Outcome) (after : World) → Turn end who outcome after → (p : ℕ) → is_marked after.past.order.held.marks p ≡ true
    → (is_marked end.past.order.held.marks p ≡ true) ⊎ ((t : TaskId) × (place : Place) × Hits end.past after.past t place × (shown_at end.past.state t.0 place ≡ Some p) × (marks_in config end who t place ≡ true))

-- as Linux places pages, a hit of a page of a file that has no mark counts one more, and the fifth marks it and ends the count. With its read-in the page had its first. (Excludes a file
-- that four reads keep, and one that five don't.)
abbrev pub FiveReadsMark : Type 0
FiveReadsMark =
    (config : Config) (before : Disk) (steps : List Line) (answers : List Told_by) (end : World) → Runs (first_world config before) steps answers end → config.placement ≡ Linux
    → (who : Actor) (outcome : Outcome) (after : World) → Turn end who outcome after → (t : TaskId) (file q offset : ℕ) → Hits end.past after.past t (place.File file q offset) → counts_in config end who ≡ true
    → (p : ℕ) × (file_page end.past.state.pages file q ≡ Some p)
    × (is_marked end.past.order.held.marks p ≡ false
    → MatchBool (nat_lt (hits_at end.past.order.held.hits p + 1) 5) ((is_marked after.past.order.held.marks p ≡ false) × (hits_at after.past.order.held.hits p ≡ hits_at end.past.order.held.hits p + 1))
    ((is_marked after.past.order.held.marks p ≡ true) × (hits_at after.past.order.held.hits p ≡ 0)))

-- of the calls of a book only a merge marks pages: those held in the frames of its bits. (Excludes an access that marks what it used, and a mark for the page that had a frame before.)
abbrev pub OnlyMergesMark : Type 0
OnlyMergesMark =
    (before after : Past) (caller : Caller) (what : Event) (answer : Reply) → Called before caller what answer after → (p : ℕ) → is_marked after.order.held.marks p ≡ true
    → (is_marked before.order.held.marks p ≡ true) ⊎ ((word bits : ℕ) × (what ≡ event.MergeMarks word bits) × (there_and (is_in_bits word bits) (page_at before.state.pages p) ≡ true))

-- all but the marks is as it was
pub record ChangesMarksAlone (before after : Past) : Type 0 where
  pub state : after.state ≡ before.state
  pub history : after.history ≡ before.history
  pub passes : after.passes ≡ before.passes
  pub lists : after.order.held.groups ≡ before.order.held.groups
  pub cursors : after.order.cursors ≡ before.order.cursors
  pub kept : (p : ℕ) → is_marked before.order.held.marks p ≡ true → is_marked after.order.held.marks p ≡ true

-- a merge changes nothing else, and takes no mark. (Excludes one that ages lists, moves a cursor, or leaves an entry.)
abbrev pub MergesChangeMarksAlone : Type 0
MergesChangeMarksAlone = (before after : Past) (caller : Caller) (word bits : ℕ) (answer : Reply) → Called before caller (event.MergeMarks word bits) answer after → ChangesMarksAlone before after

-- whatever a run led to, a merge is answered and marks what it names. (Excludes one that is refused for want of room in the trace, or of memory.)
abbrev pub MergesAreServed : Type 0
MergesAreServed =
    (config : Config) (before : Disk) (steps : List Line) (answers : List Told_by) (end : World) → Runs (first_world config before) steps answers end
    → (after : Past) (caller : Caller) (word bits : ℕ) (answer : Reply) → Called end.past caller (event.MergeMarks word bits) answer after
    → (answer ≡ reply.Ok) × MergesMarks end.past.state.opening.placement end.past.state.pages word bits end.past.order.held after.order.held

-- a page was taken for the target, and it was its group's turn to give one, which by Linux's placement is first that of the groups with an old page of a file, for one page and for the
-- root; and the page was the one of the group's that is evicted next. The lists go on, without it, from what the search for it left; and the target's cursor then names the group, and says how
-- many pages more it gives in its turn. No other cursor moves
pub record LeavesInOrder (before : Past) (goal : Goal) (target : ℕ) (after : Past) : Type 0 where
  pub taken : TakesUnprotected before.state target after.state
  pub turn : served before.state before.order goal target ≡ Some taken.page.group
  pub looked : HeldLists
  pub picked : PicksOf (is_swap_free before.state) before.order.held taken.page.group (Some taken.p) looked
  pub leaves : GoesOn Youngest before.state.pages looked after.state.pages after.order.held
  pub cursor : after.order.cursors ≡ slice_set before.order.cursors target (cursor_served before.state before.order goal target taken.page.group)
  pub named : (cursor_at after.order.cursors target).group ≡ Some taken.page.group

-- so it is with each page that a call takes, whatever a run led to before. (Excludes a page of a younger generation that leaves while an older one of its group has a page that may
-- be taken and is not marked, a search that ages other groups' lists, and a group that gives pages out of its turn.)
abbrev pub PagesLeaveInOrder : Type 0
PagesLeaveInOrder =
    (config : Config) (before : Disk) (steps : List Line) (answers : List Told_by) (end : World) → Runs (first_world config before) steps answers end
    → (after : Past) (caller : Caller) (what : Event) (answer : Reply) (target : ℕ) → took_for what answer ≡ Some target → Called end.past caller what answer after
    → LeavesInOrder end.past (goal_in what) target after

-- by Linux's placement, where a page is taken for a charge, for a frame, or for the root, and some group that may give has an old page of a file that isn't marked, then the page's
-- group has one too. (Excludes idle memory that is taken from a group without such a page while another has one.)
abbrev pub IdleIsLeftAlone : Type 0
IdleIsLeftAlone =
    (config : Config) (before : Disk) (steps : List Line) (answers : List Told_by) (end : World) → Runs (first_world config before) steps answers end
    → (after : Past) (caller : Caller) (what : Event) (answer : Reply) (target : ℕ) → took_for what answer ≡ Some target → Called end.past caller what answer after
    → heeds_age config.placement (goal_in what) target ≡ true → (h : ℕ) → gives_old end.past.state end.past.order.held target h ≡ true
    → (p : ℕ) (page : Page) → page_at end.past.state.pages p ≡ Some page → is_held page ≡ true → there_and is_held (page_at after.state.pages p) ≡ false
    → gives_old end.past.state end.past.order.held target page.group ≡ true

-- ---- turns

-- a call of the book, its answer, and what it led to
pub record Call : Type 0 where
  pub caller : Caller
  pub what : Event
  pub answer : Reply
  pub after : Past

abbrev pub changes_groups : Event → Bool
changes_groups (event.Mkdir path) = true
changes_groups (event.Rmdir g) = true
changes_groups what = false

-- one call after the other, and none of them makes or removes a group
abbrev pub Follow : Past → List Call → Type 0
Follow past [] = Unit {0}
Follow past (c ∷ later) = Called past c.caller c.what c.answer c.after × (changes_groups c.what ≡ false) × Follow c.after later

abbrev pub takes_for : ℕ → Call → Bool
takes_for target c = is_number (took_for c.what c.answer) target

-- the groups in the order in which a reclaim asks them
abbrev pub order_of : Past → Goal → ℕ → List ℕ
order_of past goal target = asking_order (takes_parts past.state.opening.placement goal) past.state.tree target (cursor_at past.order.cursors target)

-- a reclaim asks the group for a page: it has one to give; and where age is heeded and one of the groups has an old page of a file to give, so has this one
abbrev pub is_asked : Past → Goal → ℕ → ℕ → Bool
is_asked past goal target g =
    if heeds_age past.state.opening.placement goal target && list_any (gives_old past.state past.order.held target) (order_of past goal target) then gives_old past.state past.order.held target g
    else gives past.state target g

-- so it is at each call that takes a page for the target
abbrev pub IsAskedThroughout : ℕ → ℕ → Past → List Call → Type 0
IsAskedThroughout target g past [] = Unit {0}
IsAskedThroughout target g past (c ∷ later) = (takes_for target c ≡ true → is_asked past (goal_in c.what) target g ≡ true) × IsAskedThroughout target g c.after later

-- the group gives a page to the target
abbrev pub gives_in : ℕ → ℕ → Past → Call → Bool
gives_in target g past c = takes_for target c && is_number (served past.state past.order (goal_in c.what) target) g

-- a turn of the group goes on
abbrev pub turn_goes_on : ℕ → ℕ → Past → Call → Bool
turn_goes_on target g past c = list_any (λ a. a == g) (in_turn (takes_parts past.state.opening.placement (goal_in c.what)) past.state.tree target (cursor_at past.order.cursors target))

-- how many pages the group gives to the target in these calls
abbrev pub pages_given : ℕ → ℕ → Past → List Call → ℕ
pages_given target g past [] = 0
pages_given target g past (c ∷ later) = (if gives_in target g past c then 1 else 0) + pages_given target g c.after later

-- and how many turns of it begin
abbrev pub turns_begun : ℕ → ℕ → Past → List Call → ℕ
turns_begun target g past [] = 0
turns_begun target g past (c ∷ later) = (if gives_in target g past c && not (turn_goes_on target g past c) then 1 else 0) + turns_begun target g c.after later

-- each page that is taken for the target is one of a turn of one page
abbrev pub IsByTurns : ℕ → Past → List Call → Type 0
IsByTurns target past [] = Unit {0}
IsByTurns target past (c ∷ later) = (takes_for target c ≡ true → takes_parts past.state.opening.placement (goal_in c.what) ≡ false) × IsByTurns target c.after later

-- whatever a run led to, and while no group is made or removed: no group begins more than one turn more than each group at or below the target that is asked all the while. Where a turn is one page,
-- it gives at most one page more. (Excludes a pass that begins at the target each time, one cursor for all targets, and a group that is passed over.)
abbrev pub SharesAreEven : Type 0
SharesAreEven =
    (config : Config) (before : Disk) (steps : List Line) (answers : List Told_by) (end : World) → Runs (first_world config before) steps answers end
    → (target g h : ℕ) (calls : List Call) → Follow end.past calls → list_any (λ a. a == h) (preorder end.past.state.tree target) ≡ true → IsAskedThroughout target h end.past calls
    → (turns_begun target g end.past calls ≤ turns_begun target h end.past calls + 1)
    × (IsByTurns target end.past calls → pages_given target g end.past calls ≤ pages_given target h end.past calls + 1)

-- and a page that is marked is taken only where each old page of its group is: those that may be taken, and that are of none of the two youngest generations. (Excludes a page that
-- was used since it was last looked at, taken while an old one of its group was not.)
abbrev pub MarkedPagesStay : Type 0
MarkedPagesStay =
    (config : Config) (before : Disk) (steps : List Line) (answers : List Told_by) (end : World) → Runs (first_world config before) steps answers end
    → (after : Past) (caller : Caller) (what : Event) (answer : Reply) (target : ℕ) → took_for what answer ≡ Some target → Called end.past caller what answer after
    → (p : ℕ) (page : Page) → page_at end.past.state.pages p ≡ Some page → is_held page ≡ true → there_and is_held (page_at after.state.pages p) ≡ false → is_marked end.past.order.held.marks p ≡ true
    → AllByRecursion (λ l. has_mark end.past.order.held.marks l ≡ true) (old_pages (is_swap_free end.past.state) (gens_at end.past.order.held.groups page.group))

-- each read in a right history gave the last write before it, or what the byte was at first, whatever that is
abbrev pub ReadsGiveLastWrites : Type 0
ReadsGiveLastWrites = (first : Spot → ℕ) (later earlier : List Entry) (entry : Entry) → Right first (later ++ entry ∷ earlier) → IsRight first earlier entry.event entry.reply

-- an audit finds nothing wrong in the trace of a run that gave each read the last write, as every run does, over a device that has the blocks and that keeps its promise. An audit
-- takes for what a file had at first what its pages' first arrivals brought. (Excludes one that blames an honest device for what was written to a file before that.)
abbrev pub HonestDevicesPassTheAudit : Type 0
HonestDevicesPassTheAudit =
    (config : Config) (before : Disk) (steps : List Line) (answers : List Told_by) (end : World) → fits config before ≡ true → Runs (first_world config before) steps answers end
    → Right (at_first (files_on config before)) end.past.history → Passes (first_of end.past.history) end.past.history

-- where an audit finds nothing wrong, each read gave the last write before it, or what its file's page had as it first arrived, or zero; whatever the device did
abbrev pub AuditedReadsGaveLastWrites : Type 0
AuditedReadsGaveLastWrites =
    (later earlier : List Entry) (entry : Entry) → Passes (first_of (later ++ entry ∷ earlier)) (later ++ entry ∷ earlier) → IsRight (first_of (later ++ entry ∷ earlier)) earlier entry.event entry.reply

-- in whatever state a legal history ends, no two pages have one frame
abbrev pub PagesShareNoFrame : Type 0
PagesShareNoFrame =
    (opening : Opening) (history : List Entry) (s : State) → Legal opening history s
    → (p q f : ℕ) (page other : Page) → page_at s.pages p ≡ Some page → page_at s.pages q ≡ Some other → frame_at page.residence ≡ Some f → frame_at other.residence ≡ Some f → p ≡ q

-- no two pages have one block of the device
abbrev pub PagesShareNoBlock : Type 0
PagesShareNoBlock =
    (opening : Opening) (history : List Entry) (s : State) → Legal opening history s
    → (p q b : ℕ) (page other : Page) → page_at s.pages p ≡ Some page → page_at s.pages q ≡ Some other → block_at page.residence ≡ Some b → block_at other.residence ≡ Some b → p ≡ q

-- and each block of a page is one of those that the configuration asks of the device
abbrev pub BlocksAreThere : Type 0
BlocksAreThere =
    (config : Config) (history : List Entry) (s : State) → Legal (opening_of config) history s
    → (p b : ℕ) (page : Page) → page_at s.pages p ≡ Some page → block_at page.residence ≡ Some b → b < blocks_of config

-- no two pages are in transfer under one ticket
abbrev pub PagesShareNoTicket : Type 0
PagesShareNoTicket =
    (opening : Opening) (history : List Entry) (s : State) → Legal opening history s
    → (p q n : ℕ) (page other : Page) → page_at s.pages p ≡ Some page → page_at s.pages q ≡ Some other → ticket_at page.residence ≡ Some n → ticket_at other.residence ≡ Some n → p ≡ q

-- a page of a file is one that the file has, and stands in its frame, or between that and its own home block; and memory is never dirty. (Excludes a page of a file that is written to
-- a swap block or to another page's home, and one that is written out though nothing was written to it.)
abbrev pub FilePagesStayAtHome : Type 0
FilePagesStayAtHome =
    (opening : Opening) (history : List Entry) (s : State) → Legal opening history s → (p : ℕ) (page : Page) → page_at s.pages p ≡ Some page → IsFiled opening.swap opening.files page

-- a page of a file is there once. (Excludes a group that has a page of a file for itself, whose writes the others would not see.)
abbrev pub FilePagesAreOne : Type 0
FilePagesAreOne =
    (opening : Opening) (history : List Entry) (s : State) → Legal opening history s
    → (p p' file q : ℕ) (page other : Page) → page_at s.pages p ≡ Some page → page_at s.pages p' ≡ Some other → page.content ≡ OfFile file q → other.content ≡ OfFile file q → p ≡ p'

-- a page that is dropped is of a file, and nothing was written to it since its home block had its bytes; and no other page goes. (Excludes a write that is lost.)
abbrev pub OnlyCleanPagesAreDropped : Type 0
OnlyCleanPagesAreDropped =
    (before after : State) (what : Event) → Step before what reply.Dropped after
    → (p : ℕ) (page : Page) → page_at before.pages p ≡ Some page → page_at after.pages p ≡ None → (is_anon page.content ≡ false) × (page.dirty ≡ false)

-- memory.stat: the pages of both types add up to memory.current
abbrev pub StatAddsUpToCurrent : Type 0
StatAddsUpToCurrent =
    (before after : State) (g : ℕ) (stat : MemoryStat) → Step before (event.Show (query.Stat (record { 0 = g }))) (reply.Shown (shown.Stat stat)) after → stat.anon + stat.file ≡ usage before g

-- each virtual page that is mapped shows a page that is there, and that is memory
abbrev pub MappingsShowPages : Type 0
MappingsShowPages =
    (opening : Opening) (history : List Entry) (s : State) → Legal opening history s
    → (t v p : ℕ) → mapped_at s.page_tables t v ≡ Some p → (page : Page) × (page_at s.pages p ≡ Some page) × (is_anon page.content ≡ true)

-- memory that is in no transfer is shown by a virtual page of a live task. (Excludes a page that outlives its last mapper, which nobody could give back.)
abbrev pub MemoryWithoutAMappingIsGone : Type 0
MemoryWithoutAMappingIsGone =
    (opening : Opening) (history : List Entry) (s : State) → Legal opening history s → (p : ℕ) (page : Page) → page_at s.pages p ≡ Some page → is_anon page.content ≡ true → is_in_transfer page ≡ false
    → (t : ℕ) × (v : ℕ) × (lives s.tasks t ≡ true) × (mapped_at s.page_tables t v ≡ Some p)

-- two virtual pages that show one page have one last write at each offset, whatever bytes were at first. (Excludes a write that one of them sees and the other does not, and a
-- shared page that is written in place.)
abbrev pub SharedBytesAgree : Type 0
SharedBytesAgree =
    (opening : Opening) (first : Spot → ℕ) (history : List Entry) (s : State) → Legal opening history s
    → (t v u w p o : ℕ) → mapped_at s.page_tables t v ≡ Some p → mapped_at s.page_tables u w ≡ Some p → last first history (InTask t v o) ≡ last first history (InTask u w o)

-- a new live task of its parent's group shows what its parent showed, in transfer and in swap too, and has its parent's bytes. No page comes, goes or changes, and no group's count does
pub record IsChild (before : State) (earlier : List Entry) (t child : ℕ) (entry : Entry) (after : State) : Type 0 where
  pub lives : lives after.tasks child ≡ true
  pub group : group_of_task after.tasks child ≡ group_of_task before.tasks t
  pub shows : (v : ℕ) → mapped_at after.page_tables child v ≡ mapped_at before.page_tables t v
  pub others : (u v : ℕ) → u ≢ child → mapped_at after.page_tables u v ≡ mapped_at before.page_tables u v
  pub bytes : (first : Spot → ℕ) (v o : ℕ) → last first (entry ∷ earlier) (InTask child v o) ≡ last first earlier (InTask t v o)
  pub pages : after.pages ≡ before.pages
  pub usage : (a : ℕ) → usage after a ≡ usage before a

-- so it is after a fork. (Excludes a child that begins in the root, one that shares held pages alone, and one that is charged for what it shares.)
abbrev pub ForksShare : Type 0
ForksShare =
    (before after : State) (earlier : List Entry) (t child : TaskId) (entry : Entry) → entry.event ≡ event.Fork t child → entry.reply ≡ reply.Ok → Step before entry.event entry.reply after
    → IsChild before earlier t.0 child.0 entry after

-- a task that moves is in its new group; no page changes, and no group's count does. (Excludes a move that takes charges along.)
abbrev pub MovesTakeNoCharge : Type 0
MovesTakeNoCharge =
    (before after : State) (t : TaskId) (g : GroupId) (answer : Reply) → Step before (event.Attach t g) answer after
    → (group_of_task after.tasks t.0 ≡ g.0) × (after.pages ≡ before.pages) × ((a : ℕ) → usage after a ≡ usage before a)

-- a group that goes leaves the count of every other group as it was: those of the groups above it, and those of groups beside it; and of each key as much stays counted, for each group.
-- (Excludes pages that are given back to the pool when their group goes, counts that are lowered above it, and events that are counted no more.)
abbrev pub RemovalsKeepAncestorsCounts : Type 0
RemovalsKeepAncestorsCounts =
    (opening : Opening) (history : List Entry) (before after : State) (g : GroupId) (answer : Reply) → Legal opening history before → Step before (event.Rmdir g) answer after
    → ((a : ℕ) → a ≢ g.0 → usage after a ≡ usage before a)
    × ((a : ℕ) (key : Key) → (total after.tree after.counted a key ≡ total before.tree before.counted a key) × (local after.counted a key ≡ local before.counted a key))

-- the entries, and those kept for the ends of the transfers in flight, are within the trace's limit. (Excludes an end of a transfer that finds no room.)
abbrev pub TraceHasRoom : Type 0
TraceHasRoom = (opening : Opening) (history : List Entry) (s : State) → Legal opening history s → length history + in_transfer s.pages ≤ s.opening.trace_limit

-- as many transfers are in flight as were begun and have not ended. (Excludes a transfer that ends twice, and one that is lost.)
abbrev pub TransfersAreBegunLessEnded : Type 0
TransfersAreBegunLessEnded = (opening : Opening) (history : List Entry) (s : State) → Legal opening history s → in_transfer s.pages + transfers_ended history ≡ transfers_begun history

-- a page counts as charged while it is being read in and while it is being written out
abbrev pub TransfersStayCharged : Type 0
TransfersStayCharged = (tree : List Node) (a : ℕ) (page : Page) → is_in_transfer page ≡ true → is_charged tree a page ≡ under tree a page.group

-- and the group of each page and of each live task is there
abbrev pub GroupsAreThere : Type 0
GroupsAreThere =
    (opening : Opening) (history : List Entry) (s : State) → Legal opening history s
    → ((p : ℕ) (page : Page) → page_at s.pages p ≡ Some page → is_live s.tree page.group ≡ true) × ((t : ℕ) → lives s.tasks t ≡ true → is_live s.tree (group_of_task s.tasks t) ≡ true)

-- a group that is not there has no page: none that is charged, in transfer too, and none that is on its block. (Excludes a page that is left behind when its group goes, which nobody
-- could be charged for.)
abbrev pub RemovedGroupsHaveNoPages : Type 0
RemovedGroupsHaveNoPages =
    (opening : Opening) (history : List Entry) (s : State) → Legal opening history s → (g : ℕ) → is_live s.tree g ≡ false
    → ((p : ℕ) (page : Page) → page_at s.pages p ≡ Some page → page.group ≢ g) × (usage s g ≡ 0)

-- in whatever state a legal history ends, the root does not have the flag. (Excludes a write to the root's memory.oom.group that is carried out, and a flag that goes from a removed group to its parent.)
abbrev pub RootIsNeverFlagged : Type 0
RootIsNeverFlagged = (opening : Opening) (history : List Entry) (s : State) → Legal opening history s → is_flagged s.flags 0 ≡ false

-- the group has this max, this min or low, or this flag
abbrev pub HasSetting : State → ℕ → Setting → Type 0
HasSetting s g (setting.Max amount) = (limits_at s.limits g).max ≡ amount
HasSetting s g (setting.Guard guard amount) = guard_of guard (limits_at s.limits g) ≡ amount
HasSetting s g (setting.OomGroup flag) = flag_at s.flags g ≡ flag

-- the event sets just this at the group
abbrev pub SetsAt : Event → ℕ → Setting → Type 0
SetsAt (event.Set group set) g it = (group.0 ≡ g) × (set ≡ it)
SetsAt what g it = ⊥

-- the group has no max, no min, no low, and not the flag
abbrev pub HasDefaults : State → ℕ → Type 0
HasDefaults s g = (limits_at s.limits g ≡ no_limits) × (flag_at s.flags g ≡ Single)

-- each setting that a group has after a step it had before, or the step set just this at the group. A removed group's number keeps its own. In whatever state a legal history ends, a group that comes to be
-- begins with the defaults, and a setting that nothing refuses is done. (Excludes a setting that changes with a kill, a move, a removal, another group's setting or another setting of the group, and a new group that has what an earlier one of its path had.)
abbrev pub OnlySetsChangeSettings : Type 0
OnlySetsChangeSettings =
    (before after : State) (what : Event) (answer : Reply) → Step before what answer after
    → ((g : ℕ) (it : Setting) → HasSetting after g it → HasSetting before g it ⊎ SetsAt what g it)
    × ((opening : Opening) (history : List Entry) (g : ℕ) → Legal opening history before → is_live before.tree g ≡ false → is_live after.tree g ≡ true → HasDefaults after g)
    × ((opening : Opening) (history : List Entry) (g : ℕ) (it : Setting) → Legal opening history before → refusal before what ≡ None → SetsAt what g it → HasSetting after g it)

-- what a call answers is settled by the past, the caller and the event: two answers, neither of them for want of memory, say the same, but for the numbers of new
-- tickets and for the byte that a read gives, which the history says. (Excludes definitions that leave a reply to whoever carries them out.)
abbrev pub RepliesAreSettled : Type 0
RepliesAreSettled =
    (old new new' : Past) (caller : Caller) (what : Event) (said other : Reply) → Called old caller what said new → Called old caller what other new'
    → (said ≡ reply.Refused NoMemory → ⊥) → (other ≡ reply.Refused NoMemory → ⊥) → AreAlike what said other

-- two calls of one caller from one past, that answer one event alike and leave one state, leave one order: the same lists, marks and cursors. (Excludes a definition that leaves to
-- whoever carries a call out in which order pages will leave.)
abbrev pub OrdersAreSettled : Type 0
OrdersAreSettled =
    (old new new' : Past) (caller : Caller) (what : Event) (answer : Reply) → Called old caller what answer new → Called old caller what answer new' → new.state ≡ new'.state → new.order ≡ new'.order
