-- Which of some members comes next, with one member more.
use Rattle.std.proofs.Common.{◌≡◌, ℕ, zero, suc, ◌+◌, ◌*◌, ◌<◌, ◌≤◌, Bool, true, false, List, [], ◌∷◌, length, Option, Some, None, refl, sym, ap, ◌∙◌, arith}
use Rattle.std.proofs.Math.Nat.{mul-le-mul_right, mul-lt-mul_of_pos_right, mul_right_comm, lt_of_mul-lt-mul_right, le_of_mul-le-mul_right}
use Rattle.std.proofs.lemmas.Bool.{ltb-true, lt-ltb}
use borrow.Author.Count.{below_more}
use borrow.Author.Tests.{ltb-false, le-ltb}
use Rattle.expansion.specs.declared.merge.Cursor.{Cursor}
use Rattle.expansion.specs.Merge.{has_next, is_before, member_at, IsFirstOf, NextOf, IsNext, first_or, next_among}

-- fractions: a/k is below b/m, and that is not above c/n
strict : (a k b m c n : ℕ) → a * m < b * k → b * n ≤ c * m → 0 < n → a * n < c * k
strict a k b m c n p q some =
    let one : a * m * n < b * k * n = mul-lt-mul_of_pos_right p some in
    let two : b * n * k ≤ c * m * k = mul-le-mul_right k q in
    let e1 = mul_right_comm a m n in
    let e2 = mul_right_comm b k n in
    let e3 = mul_right_comm c m k in
    lt_of_mul-lt-mul_right m (omega arith)

-- a member comes before one that is above it where that is not before the first of those above, and it is
earlier : (n m k : Cursor) → has_next k ≡ true → is_before n m ≡ true → is_before k m ≡ false → is_before n k ≡ true
earlier n m k left before least =
    let some = ltb-true k.taken k.count left in
    lt-ltb _ _ (strict (n.taken + 1) n.count (m.taken + 1) m.count (k.taken + 1) k.count (ltb-true _ _ before) (ltb-false _ _ least) (omega arith))

-- and so that is not before it
not_earlier : (n k : Cursor) → is_before n k ≡ true → is_before k n ≡ false
not_earlier n k before = let h = ltb-true ((n.taken + 1) * k.count) ((k.taken + 1) * n.count) before in le-ltb _ _ (omega arith)

-- the next member is before the first of those above
pub replaced : (ms : List Cursor) (n m : ℕ) → has_next (member_at ms n) ≡ true → is_before (member_at ms n) (member_at ms m) ≡ true → IsFirstOf ms n m → IsFirstOf ms (n + 1) n
replaced ms n m here before held =
    let behind : (k : ℕ) → k < n → has_next (member_at ms k) ≡ true → is_before (member_at ms n) (member_at ms k) ≡ true =
    λ k below left. earlier (member_at ms n) (member_at ms m) (member_at ms k) left before (held.least k below left) in
    record {
      within = omega arith;
      left = here;
      least = below_more (λ k. has_next (member_at ms k) ≡ true → is_before (member_at ms k) (member_at ms n) ≡ false) n
          (λ k below left. not_earlier (member_at ms n) (member_at ms k) (behind k below left))
          (λ left. le-ltb _ _ (omega arith));
      ties = behind;
    }

-- ---- which one it is

never : false ≡ true → ⊥
never e = cc

not_itself : (c : Cursor) → is_before c c ≡ false
not_itself c = le-ltb _ _ (omega arith)

-- fractions: b/m is not above a/k, and c/n is not above b/m
weak : (a k b m c n : ℕ) → b * k ≤ a * m → c * m ≤ b * n → 0 < m → c * k ≤ a * n
weak a k b m c n p q some =
    let one : b * k * n ≤ a * m * n = mul-le-mul_right n p in
    let two : c * m * k ≤ b * n * k = mul-le-mul_right k q in
    let e1 = mul_right_comm b k n in
    let e2 = mul_right_comm a m n in
    let e3 = mul_right_comm c m k in
    le_of_mul-le-mul_right (let e : c * k * m ≤ a * n * m = omega arith in e) some

-- none before the first of those below a member is before that, where that first is not
not_before : (k m c : Cursor) → has_next m ≡ true → is_before k m ≡ false → is_before m c ≡ false → is_before k c ≡ false
not_before k m c left least held =
    let some = ltb-true m.taken m.count left in
    le-ltb _ _ (weak (k.taken + 1) k.count (m.taken + 1) m.count (c.taken + 1) c.count (ltb-false _ _ least) (ltb-false _ _ held) (omega arith))

none_of : (c : Cursor) (cs : List Cursor) → has_next c ≡ false → ((k : ℕ) → k < length cs → has_next (member_at cs k) ≡ false) → (k : ℕ) → k < length (c ∷ cs) → has_next (member_at (c ∷ cs) k) ≡ false
none_of c cs e h zero below = e
none_of c cs e h (suc k) below = h k (omega arith)

-- the first member
least_first : (c : Cursor) (cs : List Cursor) → ((k : ℕ) → k < length cs → has_next (member_at cs k) ≡ true → is_before (member_at cs k) c ≡ false)
    → (k : ℕ) → k < length (c ∷ cs) → has_next (member_at (c ∷ cs) k) ≡ true → is_before (member_at (c ∷ cs) k) c ≡ false
least_first c cs h zero below left = not_itself c
least_first c cs h (suc k) below left = h k (omega arith) left

is_first : (c : Cursor) (cs : List Cursor) → has_next c ≡ true → ((k : ℕ) → k < length cs → has_next (member_at cs k) ≡ true → is_before (member_at cs k) c ≡ false) → IsFirstOf (c ∷ cs) (length (c ∷ cs)) 0
is_first c cs left h = record { within = omega arith; left = left; least = least_first c cs h; ties = λ k below left. absurd (omega arith) }

-- one below it
least_below : (c : Cursor) (cs : List Cursor) (m : ℕ) → (has_next c ≡ true → is_before c (member_at cs m) ≡ false) → IsFirstOf cs (length cs) m
    → (k : ℕ) → k < length (c ∷ cs) → has_next (member_at (c ∷ cs) k) ≡ true → is_before (member_at (c ∷ cs) k) (member_at cs m) ≡ false
least_below c cs m first h zero below left = first left
least_below c cs m first h (suc k) below left = h.least k (omega arith) left

ties_below : (c : Cursor) (cs : List Cursor) (m : ℕ) → (has_next c ≡ true → is_before (member_at cs m) c ≡ true) → IsFirstOf cs (length cs) m
    → (k : ℕ) → k < suc m → has_next (member_at (c ∷ cs) k) ≡ true → is_before (member_at cs m) (member_at (c ∷ cs) k) ≡ true
ties_below c cs m first h zero below left = first left
ties_below c cs m first h (suc k) below left = h.ties k (omega arith) left

is_below : (c : Cursor) (cs : List Cursor) (m : ℕ) → (has_next c ≡ true → is_before (member_at cs m) c ≡ true) → IsFirstOf cs (length cs) m → IsFirstOf (c ∷ cs) (length (c ∷ cs)) (suc m)
is_below c cs m first h = record {
  within = (let w = h.within in omega arith);
  left = h.left;
  least = least_below c cs m (λ left. not_earlier (member_at cs m) c (first left)) h;
  ties = ties_below c cs m first h;
}

first_is : (c : Cursor) (cs : List Cursor) (o : Option ℕ) → NextOf cs (length cs) o → NextOf (c ∷ cs) (length (c ∷ cs)) (first_or c cs o)
first_is c cs None h = by (has_next c) refl
  where
    by : (b : Bool) → has_next c ≡ b → NextOf (c ∷ cs) (length (c ∷ cs)) (first_or c cs None)
    by true e = rw e (is_first c cs e (λ k below left. absurd (never (sym (h k below) ∙ left))))
    by false e = rw e (none_of c cs e h)
first_is c cs (Some m) h = by (has_next c) (is_before (member_at cs m) c) refl refl
  where
    by : (b d : Bool) → has_next c ≡ b → is_before (member_at cs m) c ≡ d → NextOf (c ∷ cs) (length (c ∷ cs)) (first_or c cs (Some m))
    by true true e f = rw (e, f) (is_below c cs m (λ left. f) h)
    by true false e f = rw (e, f) (is_first c cs e (λ k below left. not_before (member_at cs k) (member_at cs m) c h.left (h.least k below left) f))
    by false d e f = rw e (is_below c cs m (λ left. absurd (never (sym e ∙ left))) h)

-- the member that comes next does
pub next_is : (cs : List Cursor) → IsNext cs (next_among cs)
next_is [] = λ k below. absurd (omega arith)
next_is (c ∷ cs) = first_is c cs (next_among cs) (next_is cs)

-- only one does
not_both : (cs : List Cursor) (n a b : ℕ) → IsFirstOf cs n a → IsFirstOf cs n b → a < b → ⊥
not_both cs n a b h g below =
    let one = g.ties a below h.left in
    let two = h.least b g.within g.left in
    never (sym two ∙ one)

pub same_next : (cs : List Cursor) (n : ℕ) (o p : Option ℕ) → NextOf cs n o → NextOf cs n p → o ≡ p
same_next cs n None None h g = refl
same_next cs n None (Some b) h g = absurd (never (sym (h b g.within) ∙ g.left))
same_next cs n (Some a) None h g = absurd (never (sym (g a h.within) ∙ h.left))
same_next cs n (Some a) (Some b) h g = ap (λ k. Some k) (same a b (not_both cs n a b h g) (not_both cs n b a g h))
  where
    same : (x y : ℕ) → (x < y → ⊥) → (y < x → ⊥) → x ≡ y
    same x y p q = omega arith
