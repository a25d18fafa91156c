-- What a header's lines say, one line further.
use Rattle.std.proofs.Common.{◌≡◌, ℕ, suc, ◌+◌, ◌<◌, List, [], ◌∷◌, ◌++◌, length, get_or, take, drop, Result, Ok, Err, refl, sym, ap, subst, ◌∙◌, add-one, drop-cons, arith}
use Rattle.std.proofs.lemmas.List.{take_more}
use Rattle.scenario_words.specs.declared.fault.ExpandError.{ExpandError}
use Rattle.scenario_words.specs.declared.fault.ExpandError.TheVariants as error
use Rattle.scenario_words.specs.declared.fault.Fault.{Fault}
use Rattle.scenario_words.specs.Faults.{Gives, ◌>>=◌}
use Rattle.scenario_words.specs.Header.{State, next_said, lines_said}
use Rattle.scenario_words.specs.Words.{FilledWord}

-- the lines from one on begin with it
front : (ls : List (List FilledWord)) (k : ℕ) (l : List FilledWord) → k < length ls → l ≡ get_or ls k l → drop k ls ≡ l ∷ drop (k + 1) ls
front ls k l within e = drop-cons ls k l within ∙ (rw (sym e, add-one) refl)

-- a line that says this, with those after it
one_said : (before : List (List FilledWord)) (s : State) (l : List FilledWord) (more : List (List FilledWord)) (r : Result State Fault) → next_said before s l ≡ r → lines_said before s (l ∷ more) ≡ (r >>= (λ next. lines_said (before ++ l ∷ []) next more))
one_said before s l more r e = ap (λ (q : Result State Fault). q >>= (λ next. lines_said (before ++ l ∷ []) next more)) e

pub said_more : (ls : List (List FilledWord)) (k : ℕ) (s next : State) (l : List FilledWord) (whole : Result State Fault) → k < length ls → l ≡ get_or ls k l → next_said (take k ls) s l ≡ Ok next
    → lines_said (take k ls) s (drop k ls) ≡ whole → lines_said (take (k + 1) ls) next (drop (k + 1) ls) ≡ whole
said_more ls k s next l whole within e said held =
    let before : take (k + 1) ls ≡ take k ls ++ l ∷ [] = take_more ls k l within ∙ ap (λ (x : List FilledWord). take k ls ++ x ∷ []) (sym e) in
    let cut = front ls k l within e in
    ap (λ (b : List (List FilledWord)). lines_said b next (drop (k + 1) ls)) before ∙ sym (one_said (take k ls) s l (drop (k + 1) ls) (Ok next) said) ∙ sym (ap (lines_said (take k ls) s) cut) ∙ held

pub said_fault : {T V : Type 0} (shown : T → State) (shown' : V → State) (ls : List (List FilledWord)) (k : ℕ) (s : State) (l : List FilledWord) (e : ExpandError) (whole : Result State Fault)
    → k < length ls → l ≡ get_or ls k l → Gives shown (Err e) (next_said (take k ls) s l) → lines_said (take k ls) s (drop k ls) ≡ whole → Gives shown' (Err e) whole
said_fault shown shown' ls k s l error.Memory whole within same said held = tt
said_fault shown shown' ls k s l (error.Faulty f) whole within same said held =
    let cut = front ls k l within same in
    sym held ∙ ap (lines_said (take k ls) s) cut ∙ one_said (take k ls) s l (drop (k + 1) ls) (Err f) said
