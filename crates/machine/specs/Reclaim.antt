-- What can be reclaimed, why, and for whom (admin-guide/cgroup-v2, memory.min, memory.low and memory.max; mm/vmscan.c: shrink_node_memcgs).
use Rattle.std.specs.Prelude.{ℕ, ◌+◌, ◌&&◌, ◌||◌, not, Bool, List, if◌then◌else◌}
use Rattle.machine.specs.declared.event.Cause.{Cause}
use Rattle.machine.specs.declared.event.Cause.TheVariants.{Charge, Lower, Frame}
use Rattle.machine.specs.declared.event.Event.{Event}
use Rattle.machine.specs.declared.event.Event.TheVariants as event
use Rattle.machine.specs.declared.event.Goal.{Goal}
use Rattle.machine.specs.declared.event.Goal.TheVariants.{OnePage, Amount}
use Rattle.machine.specs.Slots.{any_there}
use Rattle.machine.specs.Tree.{is_live, under}
use Rattle.machine.specs.Amounts.{exceeds}
use Rattle.machine.specs.Pages.{Page, is_anon, is_held, is_in_transfer}
use Rattle.machine.specs.declared.record.EventCounts.{EventCounts}
use Rattle.machine.specs.declared.record.Guard.{Guard}
use Rattle.machine.specs.declared.record.Guard.TheVariants as guard
use Rattle.machine.specs.declared.record.Key.TheVariants as key
use Rattle.machine.specs.Counts.{limits_at, with_event}
use Rattle.machine.specs.Protection.{is_beyond, setting_of}
use Rattle.machine.specs.State.{State, usage, is_frame_free, is_swap_free}

-- the group is not within its effective min, or low: the target itself never is, and a group below it up to its effective value
abbrev pub is_beyond_its : Guard → State → ℕ → ℕ → Bool
is_beyond_its guard s target g = is_beyond s.opening.recursive s.tree (setting_of guard s.limits) (usage s) target g

-- the group's min does not protect it
abbrev pub is_unprotected : State → ℕ → ℕ → Bool
is_unprotected s target g = is_beyond_its guard.Min s target g

-- nor does the group's low: its pages are taken before those of groups that their low protects
abbrev pub is_above_low : State → ℕ → ℕ → Bool
is_above_low s target g = is_beyond_its guard.Low s target g

-- the page may be taken for the target: it is held, in an unprotected group under the target, and it is a file page or has a swap block to go to
abbrev pub is_takeable : State → ℕ → Page → Bool
is_takeable s target page = is_held page && under s.tree target page.group && is_unprotected s target page.group && (not (is_anon page.content) || is_swap_free s)

abbrev pub has_takeable : State → ℕ → Bool
has_takeable s target = any_there (is_takeable s target) s.pages

-- the page is open: it may be taken, and no low protects its group
abbrev pub is_open : State → ℕ → Page → Bool
is_open s target page = is_takeable s target page && is_above_low s target page.group

abbrev pub has_open : State → ℕ → Bool
has_open s target = any_there (is_open s target) s.pages

-- the page may be taken now: an open one, and any that is takeable where none is open. (Excludes a page within its group's low that is taken while another is open.)
abbrev pub is_next : State → ℕ → Page → Bool
is_next s target page = is_takeable s target page && (is_above_low s target page.group || not (has_open s target))

-- what stands counted where a page of the group is taken for the target: where it was no open one, `low` once more at the group. (Excludes a count at the target, and one for each group that is
-- passed over.)
abbrev pub counted_at_take : State → ℕ → ℕ → List EventCounts
counted_at_take s target g = if has_open s target then s.counted else with_event s.counted g key.Low

-- a page of a group under the target is in transfer
abbrev pub is_transfer_under : State → ℕ → Page → Bool
is_transfer_under s target page = is_in_transfer page && under s.tree target page.group

abbrev pub has_transfer : State → ℕ → Bool
has_transfer s target = any_there (is_transfer_under s target) s.pages

-- nothing can be reclaimed for the target, now or at the end of a transfer under it
abbrev pub is_idle : State → ℕ → Bool
is_idle s target = not (has_takeable s target) && not (has_transfer s target)

-- the cause still wants room. One on a removed group does not
abbrev pub stands : State → Cause → Bool
stands s (Charge g) = is_live s.tree g.0 && exceeds (usage s g.0 + 1) (limits_at s.limits g.0).max
stands s (Lower g) = is_live s.tree g.0 && exceeds (usage s g.0) (limits_at s.limits g.0).max
stands s Frame = not (is_frame_free s)

-- the group under which a cause wants room
abbrev pub target_of : Cause → ℕ
target_of (Charge g) = g.0
target_of (Lower g) = g.0
target_of Frame = 0

-- what a cause asks for: a charge and a frame for one page, and a lowered max for as many as are too many
abbrev pub goal_of : Cause → Goal
goal_of (Charge g) = OnePage
goal_of (Lower g) = Amount
goal_of Frame = OnePage

-- what an event asks for that takes pages: a relief what its cause does, and a reclaim on request an amount
abbrev pub goal_in : Event → Goal
goal_in (event.Relieve cause) = goal_of cause
goal_in what = Amount
