-- What contracts see of the protection from a reclaim (mm/page_counter.c: effective_protection).
use Rattle.std.specs.Prelude.{ℕ, Bool}
use Rattle.machine.specs.declared.amount.Amount.{Amount}
use Rattle.machine.specs.declared.record.Guard.{Guard}
use Rattle.machine.specs.Protection.{effective, setting_of, is_beyond}
use Rattle.page_counter.specs.Counts.{usage_of}
use Rattle.protection.specs.declared.Protection.{Protection}

-- the effective min, or low, of a group for the reclaim of the target
abbrev pub effective_by : Protection → Guard → ℕ → Amount
effective_by p guard g = effective p.recursive p.tree.now (setting_of guard p.counters.now.limits) (usage_of p.counters.now) p.target.0 g

-- it does not protect the group from the reclaim of the target
abbrev pub is_beyond_by : Protection → Guard → ℕ → Bool
is_beyond_by p guard g = is_beyond p.recursive p.tree.now (setting_of guard p.counters.now.limits) (usage_of p.counters.now) p.target.0 g
