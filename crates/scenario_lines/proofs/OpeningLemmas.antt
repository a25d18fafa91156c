-- The lines that a scenario begins with.
use Rattle.std.proofs.Common.{◌≡◌, ℕ, ◌+◌, ◌<◌, ◌≤◌, Bool, true, false, List, ◌∷◌, length, get_or, drop, Result, Ok, Err, refl, sym, ap, ◌∙◌, drop-cons, add-one, arith}
use Rattle.std.specs.Prelude.{if◌then◌else◌}
use Rattle.std.proofs.lemmas.List.{drop_all}
use Rattle.scenarios.specs.Lines.{TextLine}
use Rattle.scenario_words.specs.declared.fault.Fault.{Fault}
use Rattle.scenario_words.specs.Faults.{◌>>=◌}
use Rattle.scenario_lines.specs.HeaderLines.{Said, line_here, and_line, lines_here}
use Rattle.scenario_lines.specs.Scene.{SceneNow}

abbrev Here : Type 0
Here = ℕ × Said × SceneNow

-- lines after others
abbrev pub counted : ℕ → Result (ℕ × Said × SceneNow) Fault → Result (ℕ × Said × SceneNow) Fault
counted k more = more >>= (λ q. Ok (k + q.0, q.1, q.2))

abbrev ok_here : Said → SceneNow → ℕ → Result Here Fault
ok_here said s n = Ok (n, said, s)

pub none_counted : (r : Result Here Fault) → counted 0 r ≡ r
none_counted (Ok q) = ap (ok_here q.1 q.2) (omega arith)
none_counted (Err f) = refl

one_counted : (k : ℕ) (r : Result Here Fault) → counted k (and_line r) ≡ counted (k + 1) r
one_counted k (Ok q) = ap (ok_here q.1 q.2) (omega arith)
one_counted k (Err f) = refl

abbrev then_lines : List TextLine → Bool × Said × SceneNow → Result Here Fault
then_lines ls p = if p.0 then and_line (lines_here p.2 p.1 ls) else Ok (0, p.1, p.2)

from_here : (s : SceneNow) (said : Said) (l : TextLine) (ls : List TextLine) (r : Result (Bool × Said × SceneNow) Fault) → line_here s said l ≡ r → lines_here s said (l ∷ ls) ≡ (r >>= then_lines ls)
from_here s said l ls r e = ap (λ (q : Result (Bool × Said × SceneNow) Fault). q >>= then_lines ls) e

front : (ls : List TextLine) (k : ℕ) (l : TextLine) → k < length ls → l ≡ get_or ls k l → drop k ls ≡ l ∷ drop (k + 1) ls
front ls k l within e = drop-cons ls k l within ∙ (rw (sym e, add-one) refl)

pub line_more : (s next : SceneNow) (said more : Said) (ls : List TextLine) (k : ℕ) (l : TextLine) (goes : Bool) (whole : Result Here Fault) → k < length ls → l ≡ get_or ls k l → goes ≡ true
    → line_here s said l ≡ Ok (goes, more, next) → counted k (lines_here s said (drop k ls)) ≡ whole → counted (k + 1) (lines_here next more (drop (k + 1) ls)) ≡ whole
line_more s next said more ls k l true whole within same e here held =
    sym (one_counted k (lines_here next more (drop (k + 1) ls)))
    ∙ sym (ap (counted k) (from_here s said l (drop (k + 1) ls) (Ok (true, more, next)) here))
    ∙ sym (ap (λ (x : List TextLine). counted k (lines_here s said x)) (front ls k l within same))
    ∙ held
line_more s next said more ls k l false whole within same e here held = absurd (cc)

pub line_stops : (s next : SceneNow) (said more : Said) (ls : List TextLine) (k : ℕ) (l : TextLine) (goes : Bool) (whole : Result Here Fault) → k < length ls → l ≡ get_or ls k l → goes ≡ false
    → line_here s said l ≡ Ok (goes, more, next) → counted k (lines_here s said (drop k ls)) ≡ whole → whole ≡ Ok (k, more, next)
line_stops s next said more ls k l true whole within same e here held = absurd (cc)
line_stops s next said more ls k l false whole within same e here held =
    sym held
    ∙ ap (λ (x : List TextLine). counted k (lines_here s said x)) (front ls k l within same)
    ∙ ap (counted k) (from_here s said l (drop (k + 1) ls) (Ok (false, more, next)) here)
    ∙ ap (ok_here more next) (omega arith)

pub line_faulty : (s : SceneNow) (said : Said) (ls : List TextLine) (k : ℕ) (l : TextLine) (f : Fault) (whole : Result Here Fault) → k < length ls → l ≡ get_or ls k l
    → counted k (lines_here s said (drop k ls)) ≡ whole → line_here s said l ≡ Err f → whole ≡ Err f
line_faulty s said ls k l f whole within same held faulty =
    sym held ∙ ap (λ (x : List TextLine). counted k (lines_here s said x)) (front ls k l within same) ∙ ap (counted k) (from_here s said l (drop (k + 1) ls) (Err f) faulty)

pub lines_ended : (s : SceneNow) (said : Said) (ls : List TextLine) (k n : ℕ) (whole : Result Here Fault) → length ls ≤ k → k ≡ n
    → counted k (lines_here s said (drop k ls)) ≡ whole → whole ≡ Ok (n, said, s)
lines_ended s said ls k n whole ended same held =
    sym held ∙ ap (λ (x : List TextLine). counted k (lines_here s said x)) (drop_all k ls ended) ∙ ap (ok_here said s) (omega arith)
