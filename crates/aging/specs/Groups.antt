-- One group of all that have generation lists.
use Rattle.std.specs.Prelude.{◌≡◌, ℕ, Bool, List}
use Rattle.machine.specs.Aging.{Seen}
use Rattle.lru_gen.specs.Gens.{GensOf, gens_of, sets}

-- the lists of a group beside the marks
abbrev pub seen_at : ℕ → GensOf → List Bool → Seen
seen_at g s marks = record { gens = gens_of s g; marks = marks }

-- no lists change but those of this group
abbrev pub ChangesOnly : ℕ → GensOf → GensOf → Type 0
ChangesOnly g s t = t ≡ sets s g (gens_of t g)
