-- The effective values of the children of one parent are together at most its own.
use Rattle.std.proofs.Common.{inl, inr, ◌≡◌, ◌≢◌, ℕ, zero, ◌+◌, ◌-◌, ◌*◌, ◌/◌, ◌<◌, ◌≤◌, ◌&&◌, Bool, true, false, cond, List, [], ◌∷◌, length, Some, refl, sym, ap, ◌∙◌, subst, arith}
use Rattle.std.specs.Prelude.{nat_lt, sum_by}
use Rattle.std.proofs.Math.Nat.{add-mul, mul_comm, mul-le-mul_left, le_of_mul-le-mul_right, div-mul-le_self}
use Rattle.std.proofs.lemmas.Bool.{cases_Bool, ltb-true, ltb-false}
use Rattle.std.proofs.lemmas.List.Sums.{sum_by-cons}
use Rattle.machine.specs.declared.amount.Amount.{Amount}
use Rattle.machine.specs.declared.amount.Amount.TheVariants.{Max, Pages}
use Rattle.machine.specs.Protection.{min_usage, children_min_usage, with_rest, part_of, below_parent, effective}
use Rattle.machine.specs.Tree.{Node, node_at, IsTree, is_child, children, under}
use Rattle.group_tree.proofs.PreorderLemmas.{child_parent}
use Rattle.page_counter.proofs.ChildLemmas.{sum_by-plus, children-le, at_most-le}
use Rattle.protection.proofs.EffectiveLemmas.{effective-step}

-- parts that are rounded down are together at most what they are parts of
parts-le : (k d : ℕ) (f : ℕ → ℕ) (xs : List ℕ) → sum_by (λ x. f x * k / d) xs * d ≤ sum_by f xs * k
parts-le k d f [] = omega arith
parts-le k d f (x ∷ xs) =
    let left = ap (λ n. n * d) (sum_by-cons (λ x. f x * k / d) x xs) ∙ add-mul (f x * k / d) (sum_by (λ x. f x * k / d) xs) d in
    let right = ap (λ n. n * k) (sum_by-cons f x xs) ∙ add-mul (f x) (sum_by f xs) k in
    let down = div-mul-le_self (f x * k) d in
    let rest = parts-le k d f xs in
    omega (arith, left, right, down, rest)

parts-within : (k d : ℕ) (f : ℕ → ℕ) (xs : List ℕ) → 0 < d → sum_by f xs ≤ d → sum_by (λ x. f x * k / d) xs ≤ k
parts-within k d f xs some within =
    let parts = parts-le k d f xs in
    let more : sum_by f xs * k ≤ k * d = (let m = mul-le-mul_left k within in let c = mul_comm (sum_by f xs) k in omega (arith, m, c)) in
    le_of_mul-le-mul_right (omega (arith, parts, more)) some

-- what is left of one sum by another
surplus-sum : (f h : ℕ → ℕ) (xs : List ℕ) → ((x : ℕ) → f x ≤ h x) → sum_by (λ x. h x - f x) xs + sum_by f xs ≡ sum_by h xs
surplus-sum f h [] less = refl
surplus-sum f h (x ∷ xs) less =
    let left = sum_by-cons (λ x. h x - f x) x xs in
    let asked = sum_by-cons f x xs in
    let all = sum_by-cons h x xs in
    let rest = surplus-sum f h xs less in
    omega (arith, left, asked, all, rest, less x)

-- the number of pages of an amount that is one
abbrev pub pages_in : Amount → ℕ
pages_in Max = 0
pages_in (Pages n) = n

-- the amount is a number of pages, at most so many
abbrev AtMost : ℕ → Amount → Type 0
AtMost most a = (a ≡ Pages (pages_in a)) × (pages_in a ≤ most)

part-overcommitted : (e s own : ℕ) → nat_lt e s ≡ true → AtMost (own * e / s) (part_of (Pages e) s own)
part-overcommitted e s own over = rw over (refl, omega arith)

part-plain : (e s own : ℕ) → nat_lt e s ≡ false → AtMost own (part_of (Pages e) s own)
part-plain e s own under = rw under (refl, omega arith)

rest-most : (e s u own_usage own : ℕ) → nat_lt s u ≡ true → AtMost (own + (own_usage - own) * (e - s) / (u - s)) (with_rest (Pages e) s u own_usage own)
rest-most e s u own_usage own more = by_tests (nat_lt s e) (nat_lt own own_usage)
  where
    by_tests : (a b : Bool) → AtMost (own + (own_usage - own) * (e - s) / (u - s)) (cond (a && (nat_lt s u && b)) (Pages (own + (e - s) * (own_usage - own) / (u - s))) (Pages own))
    by_tests true true = rw (more, mul_comm (e - s) (own_usage - own)) (refl, omega arith)
    by_tests true false = rw more (refl, omega arith)
    by_tests false b = (refl, omega arith)

rest-none : (e s u own_usage own : ℕ) → nat_lt s u ≡ false → AtMost own (with_rest (Pages e) s u own_usage own)
rest-none e s u own_usage own none = by_test (nat_lt s e)
  where
    by_test : (a : Bool) → AtMost own (cond (a && (nat_lt s u && nat_lt own own_usage)) (Pages (own + (e - s) * (own_usage - own) / (u - s))) (Pages own))
    by_test true = rw none (refl, omega arith)
    by_test false = (refl, omega arith)

-- of the children of a group below the target, whose effective value is a number of pages
module _ (tree : List Node) (is : IsTree tree) (target : ℕ) (recursive : Bool) (setting : ℕ → Amount) (usage : ℕ → ℕ) (p e : ℕ) (differs : target ≢ p) (below : target < p)
    (above : effective recursive tree setting usage target p ≡ Pages e) (within : sum_by usage (children tree p) ≤ usage p) where
  abbrev value : ℕ → Amount
  value g = effective recursive tree setting usage target g

  abbrev own : ℕ → ℕ
  own g = min_usage setting usage g

  abbrev asked : ℕ
  asked = children_min_usage tree setting usage p

  -- each has at most so many, and these are together at most the parent's
  record AreBounded (bound : ℕ → ℕ) : Type 0 where
    each : (g : ℕ) → AtMost (bound g) (below_parent recursive (Pages e) asked (usage p) (usage g) (own g))
    together : sum_by bound (children tree p) ≤ e

  part-below : (r : Bool) → nat_lt e asked ≡ true → (g : ℕ) → AtMost (own g * e / asked) (below_parent r (Pages e) asked (usage p) (usage g) (own g))
  part-below true over g = subst (λ b. AtMost (own g * e / asked) (cond b (part_of (Pages e) asked (own g)) (with_rest (Pages e) asked (usage p) (usage g) (own g)))) (sym over) (part-overcommitted e asked (own g) over)
  part-below false over g = part-overcommitted e asked (own g) over

  by_parts : nat_lt e asked ≡ true → AreBounded (λ g. own g * e / asked)
  by_parts over =
      let less = ltb-true e asked over in
      record { each = part-below recursive over; together = parts-within e asked own (children tree p) (omega (arith, less)) (omega arith) }

  asked-below : (r : Bool) → nat_lt e asked ≡ false → (r ≡ true → nat_lt asked (usage p) ≡ false) → (g : ℕ) → AtMost (own g) (below_parent r (Pages e) asked (usage p) (usage g) (own g))
  asked-below true enough none g =
      subst (λ b. AtMost (own g) (cond b (part_of (Pages e) asked (own g)) (with_rest (Pages e) asked (usage p) (usage g) (own g)))) (sym enough) (rest-none e asked (usage p) (usage g) (own g) (none refl))
  asked-below false enough none g = part-plain e asked (own g) enough

  as_asked : nat_lt e asked ≡ false → (recursive ≡ true → nat_lt asked (usage p) ≡ false) → AreBounded own
  as_asked enough none = let less = ltb-false e asked enough in record { each = asked-below recursive enough none; together = less }

  with_part : ℕ → ℕ
  with_part g = own g + (usage g - own g) * (e - asked) / (usage p - asked)

  rest-below : (r : Bool) → nat_lt e asked ≡ false → r ≡ true → nat_lt asked (usage p) ≡ true → (g : ℕ) → AtMost (with_part g) (below_parent r (Pages e) asked (usage p) (usage g) (own g))
  unfolding with_part
  rest-below true enough on more g =
      subst (λ b. AtMost (own g + (usage g - own g) * (e - asked) / (usage p - asked)) (cond b (part_of (Pages e) asked (own g)) (with_rest (Pages e) asked (usage p) (usage g) (own g)))) (sym enough) (rest-most e asked (usage p) (usage g) (own g) more)
  rest-below false enough on more g = absurd cc

  by_rest : nat_lt e asked ≡ false → recursive ≡ true → nat_lt asked (usage p) ≡ true → AreBounded with_part
  unfolding with_part
  by_rest enough on more =
      let least = ltb-false e asked enough in
      let less = ltb-true asked (usage p) more in
      let surplus = surplus-sum own usage (children tree p) (λ g. at_most-le (usage g) (setting g)) in
      let parts = parts-within (e - asked) (usage p - asked) (λ g. usage g - own g) (children tree p) (omega (arith, less)) (omega (arith, surplus, within, less)) in
      let all = sum_by-plus own (λ g. (usage g - own g) * (e - asked) / (usage p - asked)) (children tree p) in
      record { each = rest-below recursive enough on more; together = omega (arith, least, parts, all) }

  bounded : (bound : ℕ → ℕ) × AreBounded bound
  bounded =
      elim (cases_Bool (nat_lt e asked)) [
        | inl over ↦ ((λ g. own g * e / asked), by_parts over)
        | inr enough ↦ elim (cases_Bool recursive) [
          | inl on ↦ elim (cases_Bool (nat_lt asked (usage p))) [
            | inl more ↦ (with_part, by_rest enough on more)
            | inr none ↦ (own, as_asked enough (λ same. none))
          ]
          | inr off ↦ (own, as_asked enough (λ on. let wrong : true ≡ false = sym on ∙ off in absurd cc))
        ]
      ]

  child_value : (g : ℕ) → is_child p (node_at tree g) ≡ true → value g ≡ below_parent recursive (Pages e) asked (usage p) (usage g) (own g)
  child_value g child =
      let parent = child_parent tree p g child in
      let falls = is.falls g p parent in
      effective-step tree is target recursive setting usage g p (λ same. omega (arith, same, falls, below)) parent differs ∙ ap (λ a. below_parent recursive a asked (usage p) (usage g) (own g)) above

  -- each child's effective value is a number of pages, and together these are at most the parent's
  pub shares-within : ((g : ℕ) → is_child p (node_at tree g) ≡ true → value g ≡ Pages (pages_in (value g))) × (sum_by (λ g. pages_in (value g)) (children tree p) ≤ e)
  shares-within =
      let all = bounded in
      let each = λ (g : ℕ) (child : is_child p (node_at tree g) ≡ true). subst (AtMost (all.0 g)) (sym (child_value g child)) (all.1.each g) in
      let less = children-le tree p (λ g. pages_in (value g)) all.0 (λ g child. (each g child).1) in
      let most = all.1.together in (
        (λ g child. (each g child).0),
        omega (arith, less, most),
      )
