-- Bits of words: the mark of each frame after one word changes.
use Rattle.std.proofs.Common.{◌≡◌, ◌≢◌, ℕ, zero, suc, ◌+◌, ◌/◌, ◌%◌, ◌^◌, ◌<◌, max, List, [], ◌∷◌, get_or, set, length, sym, refl, ap, ◌∙◌, subst, arith, get_or-set_same, get_or-set_other, bit_or}
use Rattle.std.specs.Int.{bit_at}
use Rattle.std.proofs.lemmas.Nat.Bits.{bit_at_or, bit_at-pow_same, bit_at-pow_other, bit_at-lt}
use mathlib.Core.Logic.{dite}
use mathlib.Core.Option.{some, some-injective, some-ne-none}
use native.Mathlib.Decide.{ℕ_discrete}
use lib.ListN.{get_elem?}
use Rattle.marks.specs.declared.log.Found.TheVariants.{Clear, Marked}
use Rattle.marks.specs.Logs.{as_clear, found_of, mark}

-- the words after a set, whose mask this is
abbrev pub words_after_set : List ℕ → ℕ → ℕ → List ℕ
words_after_set words frame mask = set words (frame / 64) (bit_or (get_or words (frame / 64) 0) mask)

-- another word changes, or this one
pub mark_here : (words : List ℕ) (i x f : ℕ) → i < length words → i ≡ f / 64 → mark (set words i x) f ≡ bit_at x (f % 64)
mark_here words i x f lt e =
    let P : ℕ → Type 0 = λ k. bit_at (get_or (set words i x) k 0) (f % 64) ≡ bit_at x (f % 64) in
    subst P e (ap (λ n. bit_at n (f % 64)) (get_or-set_same words i x 0 lt))

pub mark_else : (words : List ℕ) (i x f : ℕ) → i ≢ f / 64 → mark (set words i x) f ≡ mark words f
mark_else words i x f ne = ap (λ n. bit_at n (f % 64)) (get_or-set_other words i (f / 64) x 0 (λ e. ne (sym e)))

-- of a mark and what a set is told of it
pub clear_and_mark : (bit : ℕ) → bit < 2 → as_clear (found_of bit) + bit ≡ 1
clear_and_mark zero lt = refl
clear_and_mark (suc zero) lt = refl
clear_and_mark (suc (suc n)) lt = absurd (omega arith)

-- two powers of two that are one have one exponent
pub pow_same : (a b : ℕ) → 2 ^ a ≡ 2 ^ b → a ≡ b
pow_same a b e = dite (ℕ_discrete a b) (λ is. is) (λ (ne : a ≢ b).
    let one = bit_at-pow_same a in
    let other = bit_at-pow_other b a ne in
    let both : bit_at (2 ^ a) a ≡ bit_at (2 ^ b) a = ap (λ n. bit_at n a) e in
    absurd (omega arith))

-- a set leaves the mark of every other frame
pub mark_of_other : (words : List ℕ) (frame mask f : ℕ) → frame / 64 < length words → mask ≡ 2 ^ (frame % 64) → frame ≢ f
    → mark (words_after_set words frame mask) f ≡ mark words f
mark_of_other words frame mask f lt is ne = dite (ℕ_discrete (frame / 64) (f / 64))
    (λ e.
    let n = get_or words (frame / 64) 0 in
    let apart : f % 64 ≢ frame % 64 = λ h. ne (omega arith) in
    let zero_there : bit_at mask (f % 64) ≡ 0 = ap (λ k. bit_at k (f % 64)) is ∙ bit_at-pow_other (frame % 64) (f % 64) apart in
    let here : bit_at n (f % 64) ≡ mark words f = ap (λ k. bit_at (get_or words k 0) (f % 64)) e in
    let top : max (bit_at n (f % 64)) 0 ≡ bit_at n (f % 64) = omega arith in
    mark_here words (frame / 64) (bit_or n mask) f lt e ∙ (bit_at_or n mask (f % 64) ∙ (ap (λ k. max (bit_at n (f % 64)) k) zero_there ∙ (top ∙ here))))
    (λ e. mark_else words (frame / 64) (bit_or (get_or words (frame / 64) 0) mask) f e)

-- and marks its own
pub mark_of_set : (words : List ℕ) (frame mask : ℕ) → frame / 64 < length words → mask ≡ 2 ^ (frame % 64) → mark (words_after_set words frame mask) frame ≡ 1
mark_of_set words frame mask lt is =
    let n = get_or words (frame / 64) 0 in
    let one : bit_at mask (frame % 64) ≡ 1 = ap (λ k. bit_at k (frame % 64)) is ∙ bit_at-pow_same (frame % 64) in
    let small = bit_at-lt n (frame % 64) in
    let or = bit_at_or n mask (frame % 64) in
    let a : ℕ = bit_at n (frame % 64) in
    let b : ℕ = bit_at mask (frame % 64) in
    let top : max a b ≡ 1 = omega arith in
    mark_here words (frame / 64) (bit_or n mask) frame lt refl ∙ (or ∙ top)

-- what is told by a test for zero
pub told_clear : (bit : ℕ) → bit ≡ 0 → Clear ≡ found_of bit
told_clear bit e = ap found_of (sym e)

pub told_marked : (bit : ℕ) → bit ≢ 0 → Marked ≡ found_of bit
told_marked zero ne = absurd (ne refl)
told_marked (suc n) ne = refl

pub read_is : (words : List ℕ) (i x : ℕ) → get_elem? words i ≡ some x → x ≡ get_or words i 0
read_is [] i x e = absurd (some-ne-none x (sym e))
read_is (y ∷ ys) zero x e = sym (some-injective y x e)
read_is (y ∷ ys) (suc i) x e = read_is ys i x e
