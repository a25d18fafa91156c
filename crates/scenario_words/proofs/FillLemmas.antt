-- Words of a line, with their holes filled.
use Rattle.std.proofs.Common.{◌≡◌, ℕ, Bool, true, false, cond, List, [], ◌∷◌, ◌++◌, Result, Ok, append_assoc, append-nil, refl, sym, ap, ◌∙◌}
use Rattle.std.specs.Prelude.{encode_utf8}
use Rattle.scenarios.specs.Words.{is_quote}
use Rattle.scenario_words.specs.declared.fault.Fault.{Fault}
use Rattle.scenario_words.specs.Faults.{◌>>=◌}
use Rattle.scenario_words.specs.Words.{FilledWord, unquoted}

-- ---- a text without its quotes

by_quote : (text : List ℕ) (c : ℕ) (cs : List ℕ) (quote : Bool) → is_quote c ≡ quote → cond quote text (text ++ encode_utf8 c) ++ unquoted cs ≡ text ++ unquoted (c ∷ cs)
by_quote text c cs true e = rw e refl
by_quote text c cs false e = rw e (append_assoc text (encode_utf8 c) (unquoted cs))

pub one_unquoted : (text text' : List ℕ) (c : ℕ) (cs rest all : List ℕ) → rest ≡ c ∷ cs → text' ≡ cond (is_quote c) text (text ++ encode_utf8 c) → text ++ unquoted rest ≡ all → text' ++ unquoted cs ≡ all
one_unquoted text text' c cs rest all cut added so_far =
    ap (λ (bs : List ℕ). bs ++ unquoted cs) added ∙ by_quote text c cs (is_quote c) refl ∙ sym (ap (λ (ds : List ℕ). text ++ unquoted ds) cut) ∙ so_far

pub all_unquoted : (text rest all : List ℕ) → rest ≡ [] → text ++ unquoted rest ≡ all → text ≡ all
all_unquoted text rest all ended so_far = sym (append-nil text) ∙ sym (ap (λ (ds : List ℕ). text ++ unquoted ds) ended) ∙ so_far

-- ---- the words of a line

-- words that are filled, before others
abbrev pub onto_filled : List FilledWord → Result (List FilledWord) Fault → Result (List FilledWord) Fault
onto_filled fs more = more >>= (λ others. Ok (fs ++ others))
