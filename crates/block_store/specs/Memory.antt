-- Which calls of a block device in memory are still to fail. No public clause cites this.
use Rattle.std.specs.Prelude.{ℕ, ◌+◌, ◌≤◌, nat_lt, List, length, count_by}

-- how many of the list are still to come after so many calls
abbrev pub faults_left : List ℕ → ℕ → ℕ
faults_left faults calls = count_by (λ call. nat_lt calls call) faults

-- what always holds of the device: what has failed and what is still to fail are no more than what is listed
pub record IsMemory (failures reads writes : ℕ) (read_faults write_faults : List ℕ) : Type 0 where
  pub bounded : failures + (faults_left read_faults reads + faults_left write_faults writes) ≤ length read_faults + length write_faults
