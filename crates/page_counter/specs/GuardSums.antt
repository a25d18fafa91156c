-- The sums of what the children of each group ask for, by each of the two settings that protect.
use Rattle.std.specs.Prelude.{◌≡◌, ℕ, min, List}
use Rattle.machine.specs.declared.record.Guard.{Guard}
use Rattle.machine.specs.declared.record.Guard.TheVariants.{Min, Low}
use Rattle.machine.specs.declared.record.Limits.{Limits}
use Rattle.machine.specs.Protection.{setting_of}
use Rattle.machine.specs.Tree.{Node}
use Rattle.page_counter.specs.Sums.{SumsOf, AreKept}

-- by group, the sums over its children of both; and for how many groups more there is memory
pub record GuardSumsOf : Type 0 where
  pub min : List ℕ
  pub low : List ℕ
  pub room : ℕ

-- there is memory for as many groups more as both have it for
abbrev pub both_sums : SumsOf → SumsOf → GuardSumsOf
both_sums by_min by_low = record { min = by_min.sums; low = by_low.sums; room = min by_min.room by_low.room }

-- the sums of one of the two settings
abbrev pub sums_in : Guard → GuardSumsOf → List ℕ
sums_in Min s = s.min
sums_in Low s = s.low

-- the one of the two that it is not
abbrev pub IsOther : Guard → Guard → Type 0
IsOther Min Low = Unit {0}
IsOther Low Min = Unit {0}
IsOther guard other = ⊥

-- the sums of both are kept by these limits and counts
abbrev pub AreBothKept : List Node → List Limits → List ℕ → GuardSumsOf → Type 0
AreBothKept tree limits usage s = (guard : Guard) → AreKept tree (setting_of guard limits) usage (sums_in guard s)

-- and there is memory for as many groups more as before
pub record GoOnKept (tree : List Node) (limits : List Limits) (usage : List ℕ) (old new : GuardSumsOf) : Type 0 where
  pub kept : AreBothKept tree limits usage new
  pub room : new.room ≡ old.room
