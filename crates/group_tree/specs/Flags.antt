-- What contracts see of the flags.
use Rattle.std.specs.Prelude.{ℕ, List}
use Rattle.machine.specs.declared.record.OomGroup.{OomGroup}

-- by group, whether the killer takes it as one; and for how many groups more there is memory
pub record FlagsOf : Type 0 where
  pub flags : List OomGroup
  pub room : ℕ
