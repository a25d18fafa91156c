-- A sum over the children of a group, as a sum over all groups of which each adds its part: so a change at one group changes one part.
use Rattle.std.proofs.Common.{inl, inr, ◌≡◌, ◌≢◌, ℕ, zero, suc, ◌+◌, ◌<◌, ◌≤◌, true, false, cond, List, length, refl, ap, ◌∙◌, arith, add-one}
use Rattle.std.specs.Prelude.{sum_by}
use Rattle.std.proofs.lemmas.Bool.{cases_Bool}
use Rattle.machine.specs.Tree.{Node, node_at, is_child, children}
use Rattle.machine.proofs.TreeLemmas.{eq_cases}
use Rattle.group_tree.proofs.PreorderLemmas.{children-from}
use Rattle.page_counter.specs.Sums.{part}
use Rattle.page_counter.proofs.ChildLemmas.{sum_from, sum_from-end, sum_from-child, sum_from-other}

-- f of each number below n, added up
abbrev pub sum_below : (ℕ → ℕ) → ℕ → ℕ
sum_below f zero = 0
sum_below f (suc n) = sum_below f n + f n

pub same_below : (f h : ℕ → ℕ) (n : ℕ) → ((c : ℕ) → c < n → f c ≡ h c) → sum_below f n ≡ sum_below h n
same_below f h zero same = refl
same_below f h (suc n) same =
    let rest = same_below f h n (λ c lt. same c (omega (arith, lt))) in
    let here = same n (omega arith) in
    omega (arith, rest, here)

pub none_below : (f : ℕ → ℕ) (n : ℕ) → ((c : ℕ) → c < n → f c ≡ 0) → sum_below f n ≡ 0
none_below f zero none = refl
none_below f (suc n) none =
    let rest = none_below f n (λ c lt. none c (omega (arith, lt))) in
    let here = none n (omega arith) in
    omega (arith, rest, here)

change_below : (f h : ℕ → ℕ) (n k : ℕ) → k < n → ((c : ℕ) → c < n → c ≢ k → f c ≡ h c) → sum_below f n + h k ≡ sum_below h n + f k
change_below f h zero k lt others = absurd (omega arith)
change_below f h (suc n) k lt others =
    elim (eq_cases n k) [
      | inl same ↦
          (let rest = same_below f h n (λ c below. others c (omega (arith, below)) (λ e. omega (arith, e, same, below))) in
          let f_same : f n ≡ f k = ap f same in
          let h_same : h n ≡ h k = ap h same in
          omega (arith, rest, f_same, h_same))
      | inr differs ↦
          (let rest = change_below f h n k (let ne : n ≢ k = differs in omega (arith, lt, ne)) (λ c below. others c (omega (arith, below))) in
          let here = others n (omega arith) differs in
          omega (arith, rest, here))
    ]

one_below : (f : ℕ → ℕ) (n k : ℕ) → k < n → f k ≤ sum_below f n
one_below f zero k lt = absurd (omega arith)
one_below f (suc n) k lt =
    elim (eq_cases n k) [
      | inl same ↦ (let f_same : f n ≡ f k = ap f same in omega (arith, f_same))
      | inr differs ↦ (let rest = one_below f n k (let ne : n ≢ k = differs in omega (arith, lt, ne)) in omega (arith, rest))
    ]

module _ (tree : List Node) (p : ℕ) where
  pub part-child : (g n : ℕ) → is_child p (node_at tree g) ≡ true → part tree p g n ≡ n
  part-child g n is = ap (λ b. cond b n 0) is

  pub part-other : (g n : ℕ) → is_child p (node_at tree g) ≡ false → part tree p g n ≡ 0
  part-other g n other = ap (λ b. cond b n 0) other

  pub part-zero : (g n : ℕ) → n ≡ 0 → part tree p g n ≡ 0
  part-zero g n none =
      elim (cases_Bool (is_child p (node_at tree g))) [
        | inl is ↦ part-child g n is ∙ none
        | inr other ↦ part-other g n other
      ]

  part_first : (f : ℕ → ℕ) (k : ℕ) → k < length tree → sum_from tree p f k ≡ part tree p k (f k) + sum_from tree p f (k + 1)
  part_first f k lt =
      elim (cases_Bool (is_child p (node_at tree k))) [
        | inl is ↦ (let step = sum_from-child tree p f k lt is in let here = part-child k (f k) is in omega (arith, step, here))
        | inr other ↦ (let step = sum_from-other tree p f k lt other in let here = part-other k (f k) other in omega (arith, step, here))
      ]

  parts_from : (f : ℕ → ℕ) (n k : ℕ) → k + n ≡ length tree → sum_below (λ c. part tree p c (f c)) k + sum_from tree p f k ≡ sum_below (λ c. part tree p c (f c)) (length tree)
  parts_from f zero k e =
      let same : k ≡ length tree = omega arith in
      let all = ap (sum_below (λ c. part tree p c (f c))) same in
      let none = sum_from-end tree p f k (omega arith) in
      omega (arith, all, none)
  parts_from f (suc n) k e =
      let rest = parts_from f n (k + 1) (omega arith) in
      let more = ap (sum_below (λ c. part tree p c (f c))) (add-one k) in
      let first = part_first f k (omega arith) in
      omega (arith, rest, more, first)

  pub children_parts : (f : ℕ → ℕ) → sum_by f (children tree p) ≡ sum_below (λ c. part tree p c (f c)) (length tree)
  children_parts f =
      let all = parts_from f (length tree) 0 (omega arith) in
      let from = ap (sum_by f) (children-from tree p) in
      omega (arith, all, from)

  -- a group's part is no more than the sum
  pub part-le : (f : ℕ → ℕ) (g : ℕ) → g < length tree → part tree p g (f g) ≤ sum_by f (children tree p)
  part-le f g lt =
      let all = children_parts f in
      let one = one_below (λ c. part tree p c (f c)) (length tree) g lt in
      omega (arith, all, one)

  -- where only the group g asks for something else, the sum changes by the change of its part
  pub part-changed : (f h : ℕ → ℕ) (g : ℕ) → g < length tree → ((c : ℕ) → c < length tree → c ≢ g → f c ≡ h c)
      → sum_by f (children tree p) + part tree p g (h g) ≡ sum_by h (children tree p) + part tree p g (f g)
  part-changed f h g lt others =
      let left = children_parts f in
      let right = children_parts h in
      let change = change_below (λ c. part tree p c (f c)) (λ c. part tree p c (h c)) (length tree) g lt (λ c below differs. ap (part tree p c) (others c below differs)) in
      omega (arith, left, right, change)
