-- What contracts see of the counters (mm/page_counter.c).
use Rattle.std.specs.Prelude.{◌≡◌, ℕ, ◌+◌, ◌<◌, true, if◌then◌else◌, ◌==◌, List, ◌∷◌, length, slice_index, count_by, Option, Some}
use Rattle.std.specs.List.{All}
use Rattle.machine.specs.declared.record.Limits.{Limits}
use Rattle.machine.specs.Tree.{Node, is_live, share, under}
use Rattle.machine.specs.Counts as counts

-- the groups and their limits, and for each group how many pages are charged to it or below it; and for how many groups more there is memory
pub record Counts : Type 0 where
  pub tree : List Node
  pub limits : List Limits
  pub usage : List ℕ
  pub room : ℕ

abbrev pub usage_of : Counts → ℕ → ℕ
usage_of s a = slice_index s.usage a

-- the lowest group from g up whose max one page more would pass
abbrev pub over_in : Counts → ℕ → Option ℕ
over_in s g = counts.over s.tree s.limits (usage_of s) g

-- these are the groups of the charges that are out: each group is there, and its number is how many of them are at or under it
pub record AreCounts (s : Counts) (charges : List ℕ) : Type 0 where
  pub live : All (λ g. is_live s.tree g ≡ true) charges
  pub counts : (a : ℕ) → a < length s.tree → usage_of s a ≡ count_by (λ g. under s.tree a g) charges

-- a charge of g is out: the charges that are out are it and some others
pub record IsOut (s : Counts) (g : ℕ) : Type 0 where
  pub others : List ℕ
  pub counted : AreCounts s (g ∷ others)

-- the groups, their limits and the memory for more are the same
pub record SameGroups (old new : Counts) : Type 0 where
  pub tree : new.tree ≡ old.tree
  pub limits : new.limits ≡ old.limits
  pub room : new.room ≡ old.room

-- new counts one page more than old, at g and at each group above
pub record Charges (old new : Counts) (g : ℕ) : Type 0 where
  pub groups : SameGroups old new
  pub usage : (a : ℕ) → a < length old.tree → usage_of new a ≡ usage_of old a + share old.tree a (Some g)

-- new counts a page less than old, at g alone
pub record MovesUp (old new : Counts) (g : ℕ) : Type 0 where
  pub groups : SameGroups old new
  pub usage : (a : ℕ) → a < length old.tree → usage_of new a + (if a == g then 1 else 0) ≡ usage_of old a
