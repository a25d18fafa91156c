-- Which events each entry of a history counts, one by one: a table of counts is nothing but these.
use Rattle.std.specs.Prelude.{◌≡◌, ℕ, true, false, List, [], ◌∷◌, ◌++◌, Option, Some, None, if◌then◌else◌}
use Rattle.machine.specs.declared.record.EventCounts.{EventCounts}
use Rattle.machine.specs.declared.record.Key.{Key}
use Rattle.machine.specs.declared.record.Key.TheVariants as key
use Rattle.machine.specs.declared.event.Event.{Event}
use Rattle.machine.specs.declared.event.Event.TheVariants as event
use Rattle.machine.specs.declared.reply.Reply.{Reply}
use Rattle.machine.specs.declared.reply.Reply.TheVariants as reply
use Rattle.machine.specs.declared.entry.Entry.{Entry}
use Rattle.machine.specs.Counts.{Counted, count_of, no_counts, with_events}
use Rattle.machine.specs.Tasks.{group_of_task}
use Rattle.machine.specs.Victim.{counts_of_group_kill}
use Rattle.machine.specs.State.{Opening, State, first_state}
use Rattle.machine.specs.Pages.{Page, page_at, is_held, is_held_in}
use Rattle.machine.specs.Reclaim.{has_open, target_of}
use Rattle.machine.specs.Legal.{Extends}

-- the target of a reclaim, where a page was taken for it
abbrev pub took_for : Event → Reply → Option ℕ
took_for (event.Relieve cause) (reply.Out ticket) = Some (target_of cause)
took_for (event.Relieve cause) reply.Dropped = Some (target_of cause)
took_for (event.ReclaimOne g) (reply.Out ticket) = Some g.0
took_for (event.ReclaimOne g) reply.Dropped = Some g.0
took_for what answer = None

-- what an event that takes no page and is answered so counts, in this state: a refused charge `max` at the group without room; a kill `oom` at the group that wanted room and `oom_kill` at that of the
-- killed task; a kill of a group what it counts for each of its tasks and for the group; and a kill that finds no task `oom` alone. (Excludes a task's kill that is counted twice, or at the limit alone.)
abbrev pub counts_named : State → Event → Reply → List Counted
counts_named old (event.Access t place op) (reply.Over g) = count_of g.0 key.Max ∷ []
counts_named old (event.Relieve cause) (reply.KilledTask t) = count_of (target_of cause) key.Oom ∷ count_of (group_of_task old.tasks t.0) key.OomKill ∷ []
counts_named old (event.Relieve cause) (reply.KilledAll victim h tasks) = counts_of_group_kill old.opening.placement old.tree old.tasks (target_of cause) victim.0 h.0
counts_named old (event.Relieve cause) reply.NoVictim = count_of (target_of cause) key.Oom ∷ []
counts_named old what answer = []

-- what is counted where a page of the group is taken for the target: `low`, where no page is open
abbrev pub low_named : State → ℕ → ℕ → List Counted
low_named old target g = if has_open old target then [] else count_of g key.Low ∷ []

-- no reply names the group: the page that is held no more does. (Excludes a count at another group.)
pub record NamesTaken (old : State) (target : ℕ) (new : State) (events : List Counted) : Type 0 where
  pub p : ℕ
  pub page : Page
  pub there : page_at old.pages p ≡ Some page
  pub held : is_held page ≡ true
  pub leaves : is_held_in new.pages p ≡ false
  pub are : events ≡ low_named old target page.group

abbrev pub NamesFor : Option ℕ → State → Event → Reply → State → List Counted → Type 0
NamesFor None old what answer new events = events ≡ counts_named old what answer
NamesFor (Some target) old what answer new events = NamesTaken old target new events

-- what a step counts
abbrev pub Names : State → Event → Reply → State → List Counted → Type 0
Names old what answer new events = NamesFor (took_for what answer) old what answer new events

-- the events, in order, that the entries of a legal history counted on the way to this state
abbrev pub AreCounted : Opening → List Entry → State → List Counted → Type 0
AreCounted opening [] s events = (s ≡ first_state opening) × (events ≡ [])
AreCounted opening (entry ∷ earlier) s events =
    (before : State) × (so_far : List Counted) × (more : List Counted) × AreCounted opening earlier before so_far × Extends before earlier entry s × Names before entry.event entry.reply s more
    × (events ≡ so_far ++ more)

-- a table of all groups after the event: a new group has nothing counted
abbrev pub for_groups : List EventCounts → Event → List EventCounts
for_groups counted (event.Mkdir path) = counted ++ no_counts ∷ []
for_groups counted what = counted
