use Rattle.std.proofs.Common.{◌≡◌, ℕ, Bool, true, false, eqb, ltb, List, length, get_or, Option, Some, None, refl, arith}
use Rattle.std.specs.Prelude.{position}
use Rattle.std.specs.List.{position_or_len}
use Rattle.std.proofs.lemmas.Bool.Decides.{nat_tests}
use Rattle.std.proofs.lemmas.List.Sums.{position_or_len_is}
use Rattle.memchr.specs.Find.{IsFirstByte}
use Rattle.scripts.proofs.lines.line_end.Goals as goal

fails : (b : Bool) → ¬ (b ≡ true) → b ≡ false
fails true h = absurd (h refl)
fails false h = refl

is_position : (test : ℕ → Bool) (bytes : List ℕ) (r : Option ℕ) → IsFirstByte test bytes r → r ≡ position test bytes
is_position test bytes None h =
    let e : position_or_len test bytes ≡ length bytes =
    position_or_len_is test bytes (length bytes) 0 (omega arith) (λ k lt. fails (test (get_or bytes k 0)) (h k (omega arith) lt)) (λ lt. absurd (omega arith)) in
    let t : ltb (position_or_len test bytes) (length bytes) ≡ false = grind (arith, nat_tests) in
    rw t refl
is_position test bytes (Some at) h =
    let first = h.0 in
    let e : position_or_len test bytes ≡ at = position_or_len_is test bytes at 0 (omega arith) (λ k lt. fails (test (get_or bytes k 0)) (first.before k (omega arith) lt)) (λ _. h.1) in
    let t : ltb (position_or_len test bytes) (length bytes) ≡ true = grind (arith, nat_tests) in
    rw (t, e) refl

pub returns : goal.returns
returns c = is_position (λ byte. eqb byte 10) c.args.bytes.now c.memchr.result c.memchr.ensures
