-- Where two points are, a text may be cut.
use Rattle.std.proofs.Common.{◌≡◌, ℕ, ◌+◌, ◌<◌, Bool, true, false, cond, eqb, List, [], ◌∷◌, length, Some, suc, get_or, refl, ap, subst, ◌∙◌, arith}
use Rattle.std.specs.Prelude.{◌&&◌}
use Rattle.std.specs.Str.{IsUtf8, IsCharBoundary}
use Rattle.std.proofs.lemmas.Bool.{and_parts, eqb-true}
use Rattle.std.proofs.lemmas.Str.{IsCharBoundary-before_ascii, IsCharBoundary-after_ascii}
use Rattle.machine.proofs.Values.{some_inj}
use Rattle.scenarios.specs.Parts.{dots_from}

-- two points so many bytes behind the first, which has this place
record DotsAt (place : ℕ) (bs : List ℕ) (at k : ℕ) : Type 0 where
  there : at ≡ place + k
  room : k + 1 < length bs
  first : get_or bs k 0 ≡ 46
  second : get_or bs (k + 1) 0 ≡ 46

some_byte : (bs : List ℕ) → get_or bs 0 0 ≡ 46 → 0 < length bs
some_byte [] e = absurd (omega (arith, e))
some_byte (b ∷ bs) e = omega arith

-- by whether the two points are the first bytes
found_by : (place b : ℕ) (bs : List ℕ) (at : ℕ) (here : Bool) → (eqb b 46 && eqb (get_or bs 0 0) 46) ≡ here → (dots_from (place + 1) bs ≡ Some at → (k : ℕ) × DotsAt (place + 1) bs at k)
    → cond here (Some place) (dots_from (place + 1) bs) ≡ Some at → (k : ℕ) × DotsAt place (b ∷ bs) at k
found_by place b bs at true t later h =
    let both = and_parts (eqb b 46) (eqb (get_or bs 0 0) 46) t in
    let same : place ≡ at = some_inj h in
    let second : get_or bs 0 0 ≡ 46 = eqb-true _ _ both.1 in
    let some = some_byte bs second in
    (0, record { there = omega (arith, same); room = omega (arith, some); first = eqb-true _ _ both.0; second = second })
found_by place b bs at false t later h =
    let found = later h in
    let n = found.0 in
    let after : suc n + 1 ≡ suc (n + 1) = omega arith in
    let there : at ≡ place + 1 + n = found.1.there in
    let room : n + 1 < length bs = found.1.room in
    (suc n, record { there = omega arith; room = omega arith; first = found.1.first; second = ap (λ (k : ℕ). get_or (b ∷ bs) k 0) after ∙ found.1.second })

dots_found : (place : ℕ) (bs : List ℕ) (at : ℕ) → dots_from place bs ≡ Some at → (k : ℕ) × DotsAt place bs at k
dots_found place [] at e = absurd cc
dots_found place (b ∷ bs) at e = found_by place b bs at (eqb b 46 && eqb (get_or bs 0 0) 46) refl (dots_found (place + 1) bs at) e

pub around_dots : (bs : List ℕ) (at : ℕ) → IsUtf8 bs → dots_from 0 bs ≡ Some at → IsCharBoundary bs at × IsCharBoundary bs (at + 2)
around_dots bs at text h =
    let found = dots_found 0 bs at h in
    let there : at ≡ 0 + found.0 = found.1.there in
    let same : found.0 ≡ at = omega arith in
    let room : at + 1 < length bs = subst (λ (k : ℕ). k + 1 < length bs) same found.1.room in
    let first : get_or bs at 0 ≡ 46 = subst (λ (k : ℕ). get_or bs k 0 ≡ 46) same found.1.first in
    let second : get_or bs (at + 1) 0 ≡ 46 = subst (λ (k : ℕ). get_or bs (k + 1) 0 ≡ 46) same found.1.second in
    let behind : at + 1 + 1 ≡ at + 2 = omega arith in
    (IsCharBoundary-before_ascii bs at (omega arith) (omega arith), subst (IsCharBoundary bs) behind (IsCharBoundary-after_ascii bs (at + 1) text room (omega arith)))
