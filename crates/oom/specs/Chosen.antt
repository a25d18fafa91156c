-- What contracts see of a victim and of the group that dies with it.
use Rattle.std.specs.Prelude.{ℕ, option_map, Option}
use Rattle.oom.specs.declared.Chosen.{Chosen}

-- their numbers
abbrev pub pair_of : Chosen → ℕ × Option ℕ
pair_of chosen = (chosen.victim.0, option_map (λ g. g.0) chosen.group)
