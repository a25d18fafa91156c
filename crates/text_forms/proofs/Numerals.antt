-- What `parse` gives at a word without a plus.
use Rattle.std.proofs.Common.{◌≡◌, ℕ, ◌^◌, ◌<◌, Bool, true, false, ltb, eqb, List, length, get_or, Result, Ok, Err, None, refl, sym, ◌∙◌, rules, arith}
use Rattle.std.specs.Prelude.{◌&&◌}
use Rattle.std.specs.Char.{is_ascii_digit}
use Rattle.std.specs.List.{list_all}
use Rattle.std.specs.Result.{OkIff, result_ok}
use Rattle.std.specs.Str.Parse.{digits_value, ParsesUnsigned}
use Rattle.std.proofs.lemmas.Bool.{lt-ltb, ltb-true, and_parts, eq-eqb, false≢true, eqb-true}
use Rattle.std.proofs.lemmas.Str.Parse.{IsNumeralModel, numerals_by_value, not_in_digits, parse_plain}
use Rattle.machine.specs.Numbers.{is_numeral, number_below}

own : IsNumeralModel (λ ds. list_all is_ascii_digit ds ≡ true) (digits_value 10)
own = numerals_by_value _ (search rules)

-- a number below the limit, or none
by_tests : (k : ℕ) (word : List ℕ) (b : Bool) → (is_numeral word && ltb (digits_value 10 word) (2 ^ k)) ≡ b
    → ¬ ((list_all is_ascii_digit word ≡ true) × (0 < length word) × (digits_value 10 word < 2 ^ k)) → None ≡ number_below (2 ^ k) word
by_tests k word true e h =
    let numeral = and_parts (is_numeral word) (ltb (digits_value 10 word) (2 ^ k)) e in
    let digits = and_parts (ltb 0 (length word)) (list_all is_ascii_digit word) numeral.0 in
    absurd (h (digits.1, ltb-true _ _ digits.0, ltb-true _ _ numeral.1))
by_tests k word false e h = rw e refl

from_iff : {E : Type 0} (k : ℕ) (word : List ℕ) (r : Result ℕ E) → OkIff r ((list_all is_ascii_digit word ≡ true) × (0 < length word) × (digits_value 10 word < 2 ^ k)) (digits_value 10 word) → result_ok r ≡ number_below (2 ^ k) word
from_iff k word (Ok x) h =
    let some : ltb 0 (length word) ≡ true = lt-ltb _ _ h.0.1 in
    let small : ltb (digits_value 10 word) (2 ^ k) ≡ true = lt-ltb _ _ h.0.2 in
    rw (some, h.0.0, small, h.1) refl
from_iff k word (Err d) h = by_tests k word (is_numeral word && ltb (digits_value 10 word) (2 ^ k)) refl h

pub parsed : {E : Type 0} (k : ℕ) (word : List ℕ) (r : Result ℕ E) → eqb (get_or word 0 0) 43 ≡ false → ParsesUnsigned k 10 word r → result_ok r ≡ number_below (2 ^ k) word
parsed k word r e h = from_iff k word r (parse_plain own k word r h (λ plus. false≢true (sym e ∙ eq-eqb (get_or word 0 0) 43 plus)))

pub signed : (k : ℕ) (word : List ℕ) → eqb (get_or word 0 0) 43 ≡ true → None ≡ number_below (2 ^ k) word
signed k word e =
    by_tests k word (is_numeral word && ltb (digits_value 10 word) (2 ^ k)) refl (λ t. not_in_digits own word 43 t.0 (λ digit. absurd (omega (arith, digit.0))) 0 t.1 (eqb-true (get_or word 0 0) 43 e))
