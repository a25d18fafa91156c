-- What contracts see of the generation lists.
use Rattle.std.specs.Prelude.{◌≡◌, ℕ, ◌<◌, true, List}
use Rattle.machine.specs.Generations.{Gens, gens_at, with_gens, is_listed_in, AreGens}

-- the lists of each group, how many page numbers there are, and for how many groups more there is memory
pub record GensOf : Type 0 where
  pub groups : List Gens
  pub pages : ℕ
  pub room : ℕ

abbrev pub gens_of : GensOf → ℕ → Gens
gens_of s g = gens_at s.groups g

-- a group has other lists, and all else stays
abbrev pub sets : GensOf → ℕ → Gens → GensOf
sets s g gens = record s { groups = with_gens s.groups g gens }

-- the lists of all groups are sound, and each page on them has a number
pub record IsSound (s : GensOf) : Type 0 where
  pub gens : AreGens s.groups
  pub numbered : (p : ℕ) → is_listed_in s.groups p ≡ true → p < s.pages
