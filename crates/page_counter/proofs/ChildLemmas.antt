-- What the children of a group ask for is part of what the group counts: they count pages of their own, and each of these is counted at the group too.
use Rattle.std.proofs.Common.{inl, inr, ◌≡◌, ℕ, zero, suc, ◌+◌, ◌<◌, ◌≤◌, ◌==◌, Bool, true, false, cond, List, [], ◌∷◌, length, Option, Some, None, refl, sym, ap, ◌∙◌, arith}
use Rattle.std.specs.Prelude.{count_by, sum_by}
use Rattle.std.proofs.lemmas.Bool.{cases_lt, cases_Bool}
use Rattle.std.proofs.lemmas.List.Sums.{sum_by-cons}
use Rattle.machine.specs.declared.amount.Amount.{Amount}
use Rattle.machine.specs.declared.amount.Amount.TheVariants.{Max, Pages}
use Rattle.machine.specs.Amounts.{at_most}
use Rattle.machine.specs.Protection.{min_usage, children_min_usage}
use Rattle.machine.specs.Tree.{Node, node_at, is_child, children, IsTree, rank, share, under}
use Rattle.machine.proofs.TreeLemmas.{eq_cases, share-None, share-beyond, share-own, share-step, share-le, parent_above, rank-parent}
use Rattle.group_tree.specs.Walk.{children_from}
use Rattle.group_tree.proofs.PreorderLemmas.{children_from-end, children_from-child, children_from-other, children-from, child_parent}
use Rattle.page_counter.specs.Counts.{Counts, AreCounts, usage_of}
use Rattle.page_counter.proofs.ChargeLemmas.{count_more}

pub sum_by-plus : (f h : ℕ → ℕ) (xs : List ℕ) → sum_by (λ x. f x + h x) xs ≡ sum_by f xs + sum_by h xs
sum_by-plus f h [] = refl
sum_by-plus f h (x ∷ xs) =
    let both = sum_by-cons (λ x. f x + h x) x xs in
    let left = sum_by-cons f x xs in
    let right = sum_by-cons h x xs in
    let rest = sum_by-plus f h xs in
    omega (arith, both, left, right, rest)

sum_by-nothing : (xs : List ℕ) → sum_by (λ x. 0) xs ≡ 0
sum_by-nothing [] = refl
sum_by-nothing (x ∷ xs) = let step = sum_by-cons (λ x. 0) x xs in let rest = sum_by-nothing xs in omega (arith, step, rest)

-- 1 at one number, and 0 at each other
abbrev is_it : ℕ → ℕ → ℕ
is_it x c = cond (c == x) 1 0

is_it-other : (x c : ℕ) → (c ≡ x → ⊥) → is_it x c ≡ 0
is_it-other x c differs = let no : (c == x) ≡ false = grind (arith, differs) in ap (λ (b : Bool). let n : ℕ = cond b 1 0 in n) no

is_it-le : (x c : ℕ) → is_it x c ≤ 1
is_it-le x c = elim (c == x) as (λ b. cond b 1 0 ≤ 1) [ true ↦ omega arith | false ↦ omega arith ]

module _ (tree : List Node) (p : ℕ) where
  -- a sum over the children that are numbered k or more
  abbrev pub sum_from : (ℕ → ℕ) → ℕ → ℕ
  sum_from f k = sum_by f (children_from tree p k)

  pub sum_from-end : (f : ℕ → ℕ) (k : ℕ) → length tree ≤ k → sum_from f k ≡ 0
  sum_from-end f k h = ap (sum_by f) (children_from-end tree p k h)

  pub sum_from-child : (f : ℕ → ℕ) (k : ℕ) → k < length tree → is_child p (node_at tree k) ≡ true → sum_from f k ≡ f k + sum_from f (k + 1)
  sum_from-child f k h t = ap (sum_by f) (children_from-child tree p k h t) ∙ sum_by-cons f k (children_from tree p (k + 1))

  pub sum_from-other : (f : ℕ → ℕ) (k : ℕ) → k < length tree → is_child p (node_at tree k) ≡ false → sum_from f k ≡ sum_from f (k + 1)
  sum_from-other f k h t = ap (sum_by f) (children_from-other tree p k h t)

  -- at each of these children, one function is at most the other
  abbrev IsLess : ℕ → (ℕ → ℕ) → (ℕ → ℕ) → Type 0
  IsLess k f h = (c : ℕ) → k ≤ c → c < length tree → is_child p (node_at tree c) ≡ true → f c ≤ h c

  sum_from-le_step : (f h : ℕ → ℕ) (k : ℕ) → k < length tree → (is_child p (node_at tree k) ≡ true → f k ≤ h k) → sum_from f (k + 1) ≤ sum_from h (k + 1)
      → (b : Bool) → is_child p (node_at tree k) ≡ b → sum_from f k ≤ sum_from h k
  sum_from-le_step f h k lt less rest true is = let left = sum_from-child f k lt is in let right = sum_from-child h k lt is in let here = less is in omega (arith, left, right, here, rest)
  sum_from-le_step f h k lt less rest false other = let left = sum_from-other f k lt other in let right = sum_from-other h k lt other in omega (arith, left, right, rest)

  sum_from-le : (f h : ℕ → ℕ) (n k : ℕ) → length tree ≤ n + k → IsLess k f h → sum_from f k ≤ sum_from h k
  sum_from-le f h zero k e less = let none = sum_from-end f k (omega arith) in omega (arith, none)
  sum_from-le f h (suc n) k e less =
      elim (cases_lt k (length tree)) [
        | inl lt ↦ sum_from-le_step f h k lt (less k (omega arith) lt) (sum_from-le f h n (k + 1) (omega arith) (λ c from. less c (omega arith))) _ refl
        | inr end ↦ (let none = sum_from-end f k end in omega (arith, none))
      ]

  sum-le : (f h : ℕ → ℕ) (k : ℕ) → IsLess k f h → sum_from f k ≤ sum_from h k
  sum-le f h k less = sum_from-le f h (length tree) k (omega arith) less

  sum-none : (f : ℕ → ℕ) (k : ℕ) → IsLess k f (λ c. 0) → sum_from f k ≡ 0
  sum-none f k none =
      let less = sum-le f (λ c. 0) k none in
      let nothing = sum_by-nothing (children_from tree p k) in
      omega (arith, less, nothing)

  -- where one function is at most the other, what it leaves of the other at one of these children is part of what it leaves at all of them
  sum-but_before : (f h : ℕ → ℕ) (g k : ℕ) → k < length tree → (is_child p (node_at tree k) ≡ true → f k ≤ h k) → sum_from f (k + 1) + h g ≤ sum_from h (k + 1) + f g
      → (b : Bool) → is_child p (node_at tree k) ≡ b → sum_from f k + h g ≤ sum_from h k + f g
  sum-but_before f h g k lt less rest true is = let left = sum_from-child f k lt is in let right = sum_from-child h k lt is in let here = less is in omega (arith, left, right, here, rest)
  sum-but_before f h g k lt less rest false other = let left = sum_from-other f k lt other in let right = sum_from-other h k lt other in omega (arith, left, right, rest)

  sum-but_step : (f h : ℕ → ℕ) (g k : ℕ) → k < length tree → k ≤ g → IsLess k f h → is_child p (node_at tree g) ≡ true → (k < g → sum_from f (k + 1) + h g ≤ sum_from h (k + 1) + f g)
      → (b : Bool) → is_child p (node_at tree k) ≡ b → sum_from f k + h g ≤ sum_from h k + f g
  sum-but_step f h g k lt from less child later b is =
      elim (cases_lt k g) [
        | inl before ↦ (let rest = later before in sum-but_before f h g k lt (less k (omega arith) lt) rest b is)
        | inr here ↦
            (let same : k ≡ g = omega arith in
            let there = ap (λ c. is_child p (node_at tree c)) same ∙ child in
            let left = sum_from-child f k lt there in
            let right = sum_from-child h k lt there in
            let after = sum-le f h (k + 1) (λ c past. less c (omega arith)) in
            let f_same = ap f same in
            let h_same = ap h same in
            omega (arith, left, right, after, f_same, h_same))
      ]

  sum-but_from : (f h : ℕ → ℕ) (g n k : ℕ) → length tree ≤ n + k → g < length tree → k ≤ g → IsLess k f h → is_child p (node_at tree g) ≡ true → sum_from f k + h g ≤ sum_from h k + f g
  sum-but_from f h g zero k e within from less child = absurd (omega arith)
  sum-but_from f h g (suc n) k e within from less child =
      sum-but_step f h g k (omega arith) from less child (λ before. sum-but_from f h g n (k + 1) (omega arith) within (omega arith) (λ c past. less c (omega arith)) child) _ refl

  sum-but : (f h : ℕ → ℕ) (g : ℕ) → g < length tree → IsLess 0 f h → is_child p (node_at tree g) ≡ true → sum_from f 0 + h g ≤ sum_from h 0 + f g
  sum-but f h g within less child = sum-but_from f h g (length tree) 0 (omega arith) within (omega arith) less child

  -- a group is one of the children at most once
  once_step : (x k : ℕ) → k < length tree → sum_from (is_it x) (k + 1) ≤ 1 → (b : Bool) → is_child p (node_at tree k) ≡ b → sum_from (is_it x) k ≤ 1
  once_step x k lt rest true is =
      let step = sum_from-child (is_it x) k lt is in
      elim (eq_cases k x) [
        | inl same ↦
            (let later = sum-none (is_it x) (k + 1) (λ c from within child. let none = is_it-other x c (λ again. omega arith) in omega (arith, none)) in
            let one = is_it-le x k in
            omega (arith, step, later, one))
        | inr differs ↦ (let none = is_it-other x k differs in omega (arith, step, none, rest))
      ]
  once_step x k lt rest false other = let step = sum_from-other (is_it x) k lt other in omega (arith, step, rest)

  once_from : (x n k : ℕ) → length tree ≤ n + k → sum_from (is_it x) k ≤ 1
  once_from x zero k e = let none = sum_from-end (is_it x) k (omega arith) in omega (arith, none)
  once_from x (suc n) k e =
      elim (cases_lt k (length tree)) [
        | inl lt ↦ once_step x k lt (once_from x n (k + 1) (omega arith)) _ refl
        | inr end ↦ (let none = sum_from-end (is_it x) k end in omega (arith, none))
      ]

  once : (x : ℕ) → sum_from (is_it x) 0 ≤ 1
  once x = once_from x (length tree) 0 (omega arith)

-- a charge that counts at a child counts at the group, and at no other child
module _ (tree : List Node) (is : IsTree tree) (p : ℕ) where
  share_sum : (x : ℕ) → sum_from tree p (λ c. share tree c (Some x)) 0 ≤ sum_from tree p (is_it x) 0 + sum_from tree p (λ c. share tree c (node_at tree x).parent) 0
  share_sum x =
      let less = sum-le tree p (λ c. share tree c (Some x)) (λ c. is_it x c + share tree c (node_at tree x).parent) 0 (λ c from within child. let step = share-step tree is c x in omega (arith, step)) in
      let plus = sum_by-plus (is_it x) (λ c. share tree c (node_at tree x).parent) (children_from tree p 0) in
      omega (arith, less, plus)

  -- no child is over the group
  share_none : (at : Option ℕ) → at ≡ Some p → sum_from tree p (λ c. share tree c at) 0 ≡ 0
  share_none at same =
      sum-none tree p (λ c. share tree c at) 0
      (λ c from within child. let none = ap (share tree c) same ∙ share-beyond tree is (Some p) c (is.falls c p (child_parent tree p c child)) in omega (arith, none))

  share-child : (x : ℕ) → is_child p (node_at tree x) ≡ true → sum_from tree p (λ c. share tree c (Some x)) 0 ≤ share tree p (Some x)
  share-child x child =
      let sum = share_sum x in
      let one = once tree p x in
      let parent = child_parent tree p x child in
      let none = share_none (node_at tree x).parent parent in
      let own = share-own tree is p in
      let here = ap (share tree p) parent in
      let above = parent_above tree is x p in
      omega (arith, sum, one, none, own, here, above)

  share-other : (x : ℕ) → is_child p (node_at tree x) ≡ false → sum_from tree p (λ c. share tree c (node_at tree x).parent) 0 ≤ share tree p (node_at tree x).parent
      → sum_from tree p (λ c. share tree c (Some x)) 0 ≤ share tree p (Some x)
  share-other x other rest =
      let sum = share_sum x in
      let no_one =
      sum-none tree p (is_it x) 0
      (λ c from within child. let none = is_it-other x c (λ same. let wrong = sym child ∙ ap (λ g. is_child p (node_at tree g)) same ∙ other in cc) in omega (arith, none)) in
      let above = parent_above tree is x p in
      omega (arith, sum, no_one, rest, above)

  share-children : (n : ℕ) (at : Option ℕ) → rank at ≤ n → sum_from tree p (λ c. share tree c at) 0 ≤ share tree p at
  share-children n None h =
      let none = sum-none tree p (λ c. share tree c None) 0 (λ c from within child. let no = share-None tree is c in omega (arith, no)) in
      omega (arith, none)
  share-children zero (Some x) h = absurd (omega arith)
  share-children (suc n) (Some x) h =
      elim (cases_Bool (is_child p (node_at tree x))) [
        | inl child ↦ share-child x child
        | inr other ↦ (let falls = rank-parent tree is x in share-other x other (share-children n (node_at tree x).parent (omega (arith, falls, h))))
      ]

  -- the charges that are counted at the children
  count-children : (charges : List ℕ) → sum_from tree p (λ c. count_by (λ x. under tree c x) charges) 0 ≤ count_by (λ x. under tree p x) charges
  count-children [] = let none = sum_by-nothing (children_from tree p 0) in omega (arith, none)
  count-children (x ∷ charges) =
      let less =
      sum-le tree p (λ c. count_by (λ y. under tree c y) (x ∷ charges)) (λ c. count_by (λ y. under tree c y) charges + share tree c (Some x)) 0
      (λ c from within child. let more = count_more tree is c x charges in omega (arith, more)) in
      let plus = sum_by-plus (λ c. count_by (λ y. under tree c y) charges) (λ c. share tree c (Some x)) (children_from tree p 0) in
      let rest = count-children charges in
      let here = share-children (rank (Some x)) (Some x) (omega arith) in
      let more = count_more tree is p x charges in
      omega (arith, less, plus, rest, here, more)

pub at_most-le : (count : ℕ) (amount : Amount) → at_most count amount ≤ count
at_most-le count Max = omega arith
at_most-le count (Pages n) = omega arith

-- what the children of a group ask for together is at most what the group counts
pub children_min_usage-le : (s : Counts) (setting : ℕ → Amount) (charges : List ℕ) → IsTree s.tree → AreCounts s charges → (p : ℕ) → p < length s.tree → children_min_usage s.tree setting (usage_of s) p ≤ usage_of s p
children_min_usage-le s setting charges is counted p lt =
    let less =
    sum-le s.tree p (min_usage setting (usage_of s)) (λ c. count_by (λ x. under s.tree c x) charges) 0
    (λ c from within child. let some = at_most-le (usage_of s c) (setting c) in let count = counted.counts c within in omega (arith, some, count)) in
    let all = count-children s.tree is p charges in
    let here = counted.counts p lt in
    let children = ap (sum_by (min_usage setting (usage_of s))) (children-from s.tree p) in
    omega (arith, less, all, here, children)

-- counts to which one charge was added, at some of the groups above it: what the children ask for together is at most one more than what the group counted
pub children_min_usage-grown : (tree : List Node) → IsTree tree → (p : ℕ) (setting : ℕ → Amount) (old now : ℕ → ℕ) (at : Option ℕ) → ((a : ℕ) → a < length tree → now a ≤ old a + share tree a at) → sum_by old (children tree p) ≤ old p
    → children_min_usage tree setting now p ≤ old p + 1
children_min_usage-grown tree is p setting old now at grown within =
    let less =
    sum-le tree p (min_usage setting now) (λ c. old c + share tree c at) 0
    (λ c from there child. let some = at_most-le (now c) (setting c) in let more = grown c there in omega (arith, some, more)) in
    let plus = sum_by-plus old (λ c. share tree c at) (children_from tree p 0) in
    let one = share-children tree is p (rank at) at (omega arith) in
    let most = share-le tree is p at in
    let left = ap (sum_by (min_usage setting now)) (children-from tree p) in
    let right = ap (sum_by old) (children-from tree p) in
    omega (arith, less, plus, one, most, left, right, within)

-- what agrees at each group that is there asks for as much
pub children_min_usage-same : (tree : List Node) (setting : ℕ → Amount) (f h : ℕ → ℕ) → ((a : ℕ) → a < length tree → f a ≡ h a) → (p : ℕ) → children_min_usage tree setting f p ≡ children_min_usage tree setting h p
children_min_usage-same tree setting f h same p =
    let least : (c : ℕ) → c < length tree → min_usage setting f c ≡ min_usage setting h c = λ c lt. ap (λ n. at_most n (setting c)) (same c lt) in
    let less = sum-le tree p (min_usage setting f) (min_usage setting h) 0 (λ c from within child. let e = least c within in omega (arith, e)) in
    let more = sum-le tree p (min_usage setting h) (min_usage setting f) 0 (λ c from within child. let e = least c within in omega (arith, e)) in
    let left = ap (sum_by (min_usage setting f)) (children-from tree p) in
    let right = ap (sum_by (min_usage setting h)) (children-from tree p) in
    omega (arith, less, more, left, right)

-- what is at most something else at each child is so at all of them together
pub children-le : (tree : List Node) (p : ℕ) (f h : ℕ → ℕ) → ((c : ℕ) → is_child p (node_at tree c) ≡ true → f c ≤ h c) → sum_by f (children tree p) ≤ sum_by h (children tree p)
children-le tree p f h less =
    let all = sum-le tree p f h 0 (λ c from within child. less c child) in
    let left = ap (sum_by f) (children-from tree p) in
    let right = ap (sum_by h) (children-from tree p) in
    omega (arith, all, left, right)

-- a child asks for no more than all children together
pub asks-most : (tree : List Node) (setting : ℕ → Amount) (usage : ℕ → ℕ) (p g : ℕ) → g < length tree → is_child p (node_at tree g) ≡ true → min_usage setting usage g ≤ children_min_usage tree setting usage p
asks-most tree setting usage p g within child =
    let but = sum-but tree p (λ c. 0) (min_usage setting usage) g within (λ c from there is. omega arith) child in
    let children = ap (sum_by (min_usage setting usage)) (children-from tree p) in
    omega (arith, but, children)

-- and what it uses beyond what it asks for is part of what its parent uses beyond what all of them ask for
pub surplus-most : (tree : List Node) (setting : ℕ → Amount) (usage : ℕ → ℕ) (p g : ℕ) → g < length tree → is_child p (node_at tree g) ≡ true → sum_by usage (children tree p) ≤ usage p
    → usage g + children_min_usage tree setting usage p ≤ usage p + min_usage setting usage g
surplus-most tree setting usage p g within child all =
    let but = sum-but tree p (min_usage setting usage) usage g within (λ c from there is. at_most-le (usage c) (setting c)) child in
    let asked = ap (sum_by (min_usage setting usage)) (children-from tree p) in
    let used = ap (sum_by usage) (children-from tree p) in
    omega (arith, but, asked, used, all)

-- what is counted of charges at the children of a group is at most what is counted of them at the group
pub children_count-le : (tree : List Node) → IsTree tree → (charges : List ℕ) (p : ℕ) → sum_by (λ c. count_by (λ x. under tree c x) charges) (children tree p) ≤ count_by (λ x. under tree p x) charges
children_count-le tree is charges p =
    let all = count-children tree is p charges in
    let children = ap (sum_by (λ c. count_by (λ x. under tree c x) charges)) (children-from tree p) in
    omega (arith, all, children)

-- what the children of a group count together is at most what the group counts
pub children_usage-le : (s : Counts) (charges : List ℕ) → IsTree s.tree → AreCounts s charges → (p : ℕ) → p < length s.tree → sum_by (usage_of s) (children s.tree p) ≤ usage_of s p
children_usage-le s charges is counted p lt = children_min_usage-le s (λ g. Max) charges is counted p lt
