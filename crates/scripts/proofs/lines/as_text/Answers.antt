use Rattle.std.proofs.Common.{◌≡◌, ℕ, Bool, true, false, List, Result, Ok, Err, Bor, refl}
use Rattle.std.specs.Option.{MatchOption}
use Rattle.std.specs.Result.{MatchResult, result_ok}
use Rattle.std.specs.Str.{IsUtf8, is_utf8, IsValidUpTo, valid_up_to}
use Rattle.std.proofs.lemmas.Str.{IsUtf8-from_is_utf8, is_utf8-from_IsUtf8}
use Rattle.scripts.proofs.lines.as_text.Goals as goal

by_test : (line : List ℕ) (b : Bool) → is_utf8 line ≡ b → ¬ (IsUtf8 line) → is_utf8 line ≡ false
by_test line true e h = absurd (h (IsUtf8-from_is_utf8 line e))
by_test line false e h = e

by_result : {E : Type 0} (line : List ℕ) (r : Result (Bor (List ℕ)) E) (P : E → Type 0) → MatchResult r (λ s. (s.now ≡ line) × IsUtf8 line) (λ e. ¬ (IsUtf8 line) × P e)
    → MatchOption (result_ok r) (is_utf8 line ≡ false) (λ text. (is_utf8 line ≡ true) × (text.now ≡ line))
by_result line (Ok s) P h = (is_utf8-from_IsUtf8 line h.1, h.0)
by_result line (Err e) P h = by_test line (is_utf8 line) refl h.0

pub returns : goal.returns
returns c = rw c.ok.ensures.value (by_result c.args.line.now c.from_utf8.result (λ e. IsValidUpTo c.args.line.now (valid_up_to e)) c.from_utf8.ensures.cases)
