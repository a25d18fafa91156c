use Rattle.std.proofs.Common.{◌≡◌, ℕ, ◌+◌, Bool, true, false, List, take, count_by, refl, sym, ap, ◌∙◌}
use Rattle.std.specs.Str.{IsUtf8, is_utf8, valid_up_to}
use Rattle.std.specs.Str.Lossy.{utf8_valid_len}
use Rattle.std.proofs.lemmas.Str.{IsUtf8-from_is_utf8, is_utf8-from_IsUtf8, utf8_valid_len-IsValidUpTo}
use Rattle.scenarios.specs.Scenario.{begins_character}
use Rattle.scenarios.proofs.scenario.line_text.Goals as goal

by_test : (bytes : List ℕ) (b : Bool) → is_utf8 bytes ≡ b → ¬ (IsUtf8 bytes) → is_utf8 bytes ≡ false
by_test bytes true e h = absurd (h (IsUtf8-from_is_utf8 bytes e))
by_test bytes false e h = e

pub returns-in-Ok : goal.returns-in-Ok
returns-in-Ok c = (is_utf8-from_IsUtf8 c.args.bytes.now c.in-Ok.ensures.cases.1, c.in-Ok.ensures.cases.0)

pub returns-in-Err : goal.returns-in-Err
returns-in-Err c =
    let valid : utf8_valid_len c.args.bytes.now ≡ c.valid_up_to.result = utf8_valid_len-IsValidUpTo c.args.bytes.now (valid_up_to c.in-Err.broken) c.in-Err.ensures.cases.1 ∙ sym c.valid_up_to.ensures in (
      by_test c.args.bytes.now (is_utf8 c.args.bytes.now) refl c.in-Err.ensures.cases.0,
      ap (λ (n : ℕ). n + 1) (c.characters.ensures ∙ ap (λ (n : ℕ). count_by begins_character (take n c.args.bytes.now)) (sym valid)),
    )
