-- Sums over the views of all seats, of which one or two change.
use Rattle.std.proofs.Common.{◌≡◌, ◌≢◌, ℕ, zero, suc, ◌+◌, ◌≤◌, List, [], ◌∷◌, ◌++◌, set, sym, refl, ap, arith}
use Rattle.std.specs.List.{sum_by}
use Rattle.std.proofs.lemmas.List.Sums.{sum_by-cons, sum_by_push}
use mathlib.Core.Option.{some, some-injective, some-ne-none}
use lib.ListN.{get_elem?}
use Rattle.live.specs.declared.history.View.{View}

-- one view changes
pub sum_by-set : (f : View → ℕ) (views : List View) (id : ℕ) (old new : View) → get_elem? views id ≡ some old → sum_by f (set views id new) + f old ≡ sum_by f views + f new
sum_by-set f [] id old new at = absurd (some-ne-none old (sym at))
sum_by-set f (x ∷ xs) zero old new at = let is : f x ≡ f old = ap f (some-injective x old at) in omega (arith, sum_by-cons f new xs, sum_by-cons f x xs)
sum_by-set f (x ∷ xs) (suc i) old new at = omega (arith, sum_by-set f xs i old new at, sum_by-cons f x (set xs i new), sum_by-cons f x xs)

-- a view is cut in two
pub sum_by-split : (f : View → ℕ) (views : List View) (id : ℕ) (old left right : View) → get_elem? views id ≡ some old → f left + f right ≡ f old → sum_by f (set views id left ++ right ∷ []) ≡ sum_by f views
sum_by-split f views id old left right at e = let a = sum_by-set f views id old left at in let b = sum_by_push f (set views id left) right in omega arith

-- a view takes in another
pub sum_by-join : (f : View → ℕ) (views : List View) (id other : ℕ) (v w both spent : View) → get_elem? views id ≡ some v → get_elem? (set views id both) other ≡ some w → f both + f spent ≡ f v + f w
    → sum_by f (set (set views id both) other spent) ≡ sum_by f views
sum_by-join f views id other v w both spent at at' e = let a = sum_by-set f views id v both at in let b = sum_by-set f (set views id both) other w spent at' in omega arith

-- one view is a part of the sum
pub part_of : (f : View → ℕ) (views : List View) (id : ℕ) (v : View) → get_elem? views id ≡ some v → f v ≤ sum_by f views
part_of f [] id v at = absurd (some-ne-none v (sym at))
part_of f (x ∷ xs) zero v at = let is : f x ≡ f v = ap f (some-injective x v at) in omega (arith, sum_by-cons f x xs)
part_of f (x ∷ xs) (suc id) v at = omega (arith, part_of f xs id v at, sum_by-cons f x xs)

-- two views together are
pub two_of : (f : View → ℕ) (views : List View) (id other : ℕ) (v w : View) → get_elem? views id ≡ some v → get_elem? views other ≡ some w → other ≢ id → f v + f w ≤ sum_by f views
two_of f [] id other v w at at' ne = absurd (some-ne-none v (sym at))
two_of f (x ∷ xs) zero zero v w at at' ne = absurd (ne refl)
two_of f (x ∷ xs) zero (suc other) v w at at' ne = let is : f x ≡ f v = ap f (some-injective x v at) in omega (arith, part_of f xs other w at', sum_by-cons f x xs)
two_of f (x ∷ xs) (suc id) zero v w at at' ne = let is : f x ≡ f w = ap f (some-injective x w at') in omega (arith, part_of f xs id v at, sum_by-cons f x xs)
two_of f (x ∷ xs) (suc id) (suc other) v w at at' ne = omega (arith, two_of f xs id other v w at at' (λ (e : other ≡ id). ne (ap suc e)), sum_by-cons f x xs)

-- where a view has all that is counted, and what counts nothing weighs nothing, it has all the weight
none_left : (f g : View → ℕ) → ((v : View) → f v ≡ 0 → g v ≡ 0) → (views : List View) → sum_by f views ≡ 0 → sum_by g views ≡ 0
none_left f g idle [] e = refl
none_left f g idle (x ∷ xs) e =
    let p = sum_by-cons f x xs in
    let here : g x ≡ 0 = idle x (omega arith) in
    let there = none_left f g idle xs (omega arith) in
    omega (arith, sum_by-cons g x xs)

pub only_one : (f g : View → ℕ) → ((v : View) → f v ≡ 0 → g v ≡ 0) → (views : List View) (id : ℕ) (v : View) → get_elem? views id ≡ some v → sum_by f views ≤ f v → sum_by g views ≡ g v
only_one f g idle [] id v at e = absurd (some-ne-none v (sym at))
only_one f g idle (x ∷ xs) zero v at e =
    let p = sum_by-cons f x xs in
    let is : x ≡ v = some-injective x v at in
    let one : f x ≡ f v = ap f is in
    let same : g x ≡ g v = ap g is in
    let rest = none_left f g idle xs (omega arith) in
    omega (arith, sum_by-cons g x xs)
only_one f g idle (x ∷ xs) (suc id) v at e =
    let p = sum_by-cons f x xs in
    let most = part_of f xs id v at in
    let here : g x ≡ 0 = idle x (omega arith) in
    let rest = only_one f g idle xs id v at (omega arith) in
    omega (arith, sum_by-cons g x xs)
