-- The sums of what the children of each group ask for by one of their settings (mm/page_counter.c: children_min_usage, propagate_protected_usage).
use Rattle.std.specs.Prelude.{◌≡◌, ℕ, ◌+◌, ◌<◌, ◌≤◌, true, if◌then◌else◌, List, length, slice_index, slice_set}
use Rattle.machine.specs.declared.amount.Amount.{Amount}
use Rattle.machine.specs.Protection.{children_min_usage}
use Rattle.machine.specs.Tree.{Node, node_at, is_child}

-- by group, the sum over its children; and for how many groups more there is memory
pub record SumsOf : Type 0 where
  pub sums : List ℕ
  pub room : ℕ

-- there is a sum for each group, and it is what the live children of the group ask for together by their setting
pub record AreKept (tree : List Node) (setting : ℕ → Amount) (usage sums : List ℕ) : Type 0 where
  pub len : length sums ≡ length tree
  pub kept : (p : ℕ) → p < length tree → slice_index sums p ≡ children_min_usage tree setting (λ a. slice_index usage a) p

-- where g counts n pages, and that is more than it did, what the children of its parent ask for together fits in 64 bits still, by any setting
abbrev pub ChildrenFit : List Node → List ℕ → ℕ → ℕ → Type 0
ChildrenFit tree usage g n =
    slice_index usage g < n → (setting : ℕ → Amount) (p : ℕ) → is_child p (node_at tree g) ≡ true → children_min_usage tree setting (λ a. slice_index (slice_set usage g n) a) p ≤ 18446744073709551615

-- what the group g, where it asks for n, adds to the sum of p
abbrev pub part : List Node → ℕ → ℕ → ℕ → ℕ
part tree p g n = if is_child p (node_at tree g) then n else 0

-- the group g asks for `after` where it asked for `before`: the sum of what it hangs below, and no other, changes by as much
abbrev pub Propagates : List Node → ℕ → ℕ → ℕ → List ℕ → List ℕ → Type 0
Propagates tree g before after old new = (p : ℕ) → p < length tree → slice_index new p + part tree p g before ≡ slice_index old p + part tree p g after
