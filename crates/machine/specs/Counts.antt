-- Limits, charges against them (mm/page_counter.c: page_counter_try_charge), and event counts (admin-guide/cgroup-v2, memory.events).
use Rattle.std.specs.Prelude.{ℕ, ◌+◌, ◌==◌, ◌&&◌, Bool, true, false, List, [], ◌∷◌, count_by, filter, find, sum_by, Option, Some, slice_index_or, slice_set}
use Rattle.machine.specs.declared.amount.Amount.{Amount}
use Rattle.machine.specs.declared.amount.Amount.TheVariants as amount
use Rattle.machine.specs.declared.record.Guard.{Guard}
use Rattle.machine.specs.declared.record.Guard.TheVariants as guard
use Rattle.machine.specs.declared.record.Limits.{Limits}
use Rattle.machine.specs.declared.record.EventCounts.{EventCounts}
use Rattle.machine.specs.declared.record.Key.{Key}
use Rattle.machine.specs.declared.record.Key.TheVariants.{Low, High, Max, Oom, OomKill, OomGroupKill}
use Rattle.machine.specs.Tree.{Node, numbers, chain, under}
use Rattle.machine.specs.Amounts.{exceeds}

-- a new group's, and those of a number that is no group's: no limit and no protection
abbrev pub no_limits : Limits
no_limits = record { max = amount.Max; min = amount.Pages 0; low = amount.Pages 0 }

-- how much the min protects, or the low
abbrev pub guard_of : Guard → Limits → Amount
guard_of guard.Min limits = limits.min
guard_of guard.Low limits = limits.low

abbrev pub with_guard : Limits → Guard → Amount → Limits
with_guard limits guard.Min amount = record limits { min = amount }
with_guard limits guard.Low amount = record limits { low = amount }

abbrev pub limits_at : List Limits → ℕ → Limits
limits_at limits g = slice_index_or limits g no_limits

-- one page more would pass the max of a, by these counts
abbrev pub is_full : List Limits → (ℕ → ℕ) → ℕ → Bool
is_full limits count a = exceeds (count a + 1) (limits_at limits a).max

-- the lowest group from here up at which one page more would pass the max. (Excludes a charge that names the highest such group.)
unfoldable pub over_at : List Node → List Limits → (ℕ → ℕ) → Option ℕ → Option ℕ
over_at tree limits count at = find (is_full limits count) (chain tree at)

abbrev pub over : List Node → List Limits → (ℕ → ℕ) → ℕ → Option ℕ
over tree limits count g = over_at tree limits count (Some g)

-- a new group's, and those of a number that is no group's: nothing was counted
abbrev pub no_counts : EventCounts
no_counts = record { low = 0; high = 0; max = 0; oom = 0; oom_kill = 0; oom_group_kill = 0 }

-- how often the key was counted, by these six numbers
abbrev pub count_of_key : EventCounts → Key → ℕ
count_of_key counts Low = counts.low
count_of_key counts High = counts.high
count_of_key counts Max = counts.max
count_of_key counts Oom = counts.oom
count_of_key counts OomKill = counts.oom_kill
count_of_key counts OomGroupKill = counts.oom_group_kill

-- the key is counted once more
abbrev pub once_more : EventCounts → Key → EventCounts
once_more counts Low = record counts { low = counts.low + 1 }
once_more counts High = record counts { high = counts.high + 1 }
once_more counts Max = record counts { max = counts.max + 1 }
once_more counts Oom = record counts { oom = counts.oom + 1 }
once_more counts OomKill = record counts { oom_kill = counts.oom_kill + 1 }
once_more counts OomGroupKill = record counts { oom_group_kill = counts.oom_group_kill + 1 }

abbrev pub counts_at : List EventCounts → ℕ → EventCounts
counts_at counted g = slice_index_or counted g no_counts

-- an event: the key is counted once more at the group, and nowhere else
abbrev pub with_event : List EventCounts → ℕ → Key → List EventCounts
with_event counted g key = slice_set counted g (once_more (counts_at counted g) key)

-- how often the key was counted at the group itself (memory.events.local)
abbrev pub local : List EventCounts → ℕ → Key → ℕ
local counted g key = count_of_key (counts_at counted g) key

-- and how often at the group or anywhere below it, removed groups too (memory.events)
abbrev pub total : List Node → List EventCounts → ℕ → Key → ℕ
total tree counted a key = sum_by (λ g. local counted g key) (filter (under tree a) (numbers tree))

-- the counts of all six keys
abbrev pub counts_by : (Key → ℕ) → EventCounts
counts_by count = record { low = count Low; high = count High; max = count Max; oom = count Oom; oom_kill = count OomKill; oom_group_kill = count OomGroupKill }

-- ---- events one by one

-- a key was counted at a group
pub record Counted : Type 0 where
  pub group : ℕ
  pub key : Key

abbrev pub count_of : ℕ → Key → Counted
count_of g what = record { group = g; key = what }

-- a table with these events counted as well
abbrev pub with_events : List EventCounts → List Counted → List EventCounts
with_events counted [] = counted
with_events counted (c ∷ events) = with_events (with_event counted c.group c.key) events

abbrev pub is_key : Key → Key → Bool
is_key Low Low = true
is_key High High = true
is_key Max Max = true
is_key Oom Oom = true
is_key OomKill OomKill = true
is_key OomGroupKill OomGroupKill = true
is_key key other = false

-- how many of the events were of the key at the group
abbrev pub how_often : List Counted → ℕ → Key → ℕ
how_often events g key = count_by (λ c. (c.group == g) && is_key c.key key) events
