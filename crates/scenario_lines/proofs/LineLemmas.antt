-- Lists that a line stands for, one after the other.
use Rattle.std.proofs.Common.{◌≡◌, ℕ, zero, suc, ◌+◌, ◌-◌, ◌*◌, ◌<◌, ◌≤◌, List, [], ◌∷◌, ◌++◌, length, get_or, drop, Some, Result, Ok, Err, refl, sym, ap, ◌∙◌, append-nil, append_assoc, drop-cons, add-one, arith}
use Rattle.std.proofs.lemmas.List.{drop_all}
use Rattle.scenario_words.specs.declared.fault.Fault.{Fault}
use Rattle.scenario_words.specs.Faults.{◌>>=◌}
use Rattle.scenario_words.specs.Words.{FilledWord}
use Rattle.scenario_lines.specs.declared.burst.Burst.{Burst}
use Rattle.scenario_lines.specs.Acts.{act_line}
use Rattle.scenario_lines.specs.LineLists.{onto_lists, set_at, sets_from, start_in, starts_from, acts_from}
use Rattle.scenario_lines.specs.Scene.{SceneNow, GroupPath}

-- ---- keys and values

abbrev ok_lists : List Burst → Result (List Burst) Fault
ok_lists bs = Ok bs

onto_next : (bs : List Burst) (b : Burst) (r : Result (List Burst) Fault) → onto_lists bs (r >>= (λ more. Ok (b ∷ more))) ≡ onto_lists (bs ++ b ∷ []) r
onto_next bs b (Ok more) = ap ok_lists (sym (append_assoc bs (b ∷ []) more))
onto_next bs b (Err f) = refl

set_here : (s : SceneNow) (ws : List FilledWord) (path : GroupPath) (place k : ℕ) (r : Result Burst Fault) → set_at s ws place path ≡ r
    → sets_from s ws path place (suc k) ≡ (r >>= (λ b. sets_from s ws path (place + 2) k >>= (λ bs. Ok (b ∷ bs))))
set_here s ws path place k r e = ap (λ (q : Result Burst Fault). q >>= (λ b. sets_from s ws path (place + 2) k >>= (λ bs. Ok (b ∷ bs)))) e

pub set_more : (s : SceneNow) (ws : List FilledWord) (path : GroupPath) (key n : ℕ) (b : Burst) (got next : List Burst) (whole : Result (List Burst) Fault) → key < n
    → set_at s ws (2 + 2 * key) path ≡ Ok b → next ≡ got ++ b ∷ [] → onto_lists got (sets_from s ws path (2 + 2 * key) (n - key)) ≡ whole
    → onto_lists next (sets_from s ws path (2 + 2 * (key + 1)) (n - (key + 1))) ≡ whole
set_more s ws path key n b got next whole within there pushed held =
    let k = n - (key + 1) in
    let place = 2 + 2 * key in
    let many : n - key ≡ suc k = omega arith in
    let after : 2 + 2 * (key + 1) ≡ place + 2 = omega arith in
    ap (λ (l : List Burst). onto_lists l (sets_from s ws path (2 + 2 * (key + 1)) k)) pushed
    ∙ ap (λ p. onto_lists (got ++ b ∷ []) (sets_from s ws path p k)) after
    ∙ sym (onto_next got b (sets_from s ws path (place + 2) k))
    ∙ sym (ap (onto_lists got) (set_here s ws path place k (Ok b) there))
    ∙ sym (ap (λ m. onto_lists got (sets_from s ws path place m)) many)
    ∙ held

pub set_faulty : (s : SceneNow) (ws : List FilledWord) (path : GroupPath) (key n : ℕ) (got : List Burst) (f : Fault) (whole : Result (List Burst) Fault) → key < n
    → onto_lists got (sets_from s ws path (2 + 2 * key) (n - key)) ≡ whole → set_at s ws (2 + 2 * key) path ≡ Err f → whole ≡ Err f
set_faulty s ws path key n got f whole within held faulty =
    let k = n - (key + 1) in
    let many : n - key ≡ suc k = omega arith in
    sym held ∙ ap (λ m. onto_lists got (sets_from s ws path (2 + 2 * key) m)) many ∙ ap (onto_lists got) (set_here s ws path (2 + 2 * key) k (Err f) faulty)

pub sets_ended : (s : SceneNow) (ws : List FilledWord) (path : GroupPath) (key n : ℕ) (got : List Burst) (whole : Result (List Burst) Fault) → n ≤ key
    → onto_lists got (sets_from s ws path (2 + 2 * key) (n - key)) ≡ whole → whole ≡ Ok got
sets_ended s ws path key n got whole ended held =
    let none : n - key ≡ zero = omega arith in
    sym held ∙ ap (λ m. onto_lists got (sets_from s ws path (2 + 2 * key) m)) none ∙ ap ok_lists (append-nil got)

-- ---- lists that change what is known

-- lists before others, and what is known after all
abbrev pub onto_all : List Burst → Result (List Burst × SceneNow) Fault → Result (List Burst × SceneNow) Fault
onto_all bs more = more >>= (λ q. Ok (bs ++ q.0, q.1))

abbrev ok_all : SceneNow → List Burst → Result (List Burst × SceneNow) Fault
ok_all s bs = Ok (bs, s)

pub none_before : (got : List Burst) (r : Result (List Burst × SceneNow) Fault) → got ≡ [] → onto_all got r ≡ r
none_before got (Ok q) e = ap (λ (l : List Burst). ok_all q.1 (l ++ q.0)) e
none_before got (Err f) e = refl

all_next : (bs : List Burst) (b : Burst) (r : Result (List Burst × SceneNow) Fault) → onto_all bs (r >>= (λ q. Ok (b ∷ q.0, q.1))) ≡ onto_all (bs ++ b ∷ []) r
all_next bs b (Ok q) = ap (ok_all q.1) (sym (append_assoc bs (b ∷ []) q.0))
all_next bs b (Err f) = refl

-- ---- starts

abbrev then_starts : FilledWord → List ℕ → List ℕ → ℕ → ℕ → Burst × SceneNow → Result (List Burst × SceneNow) Fault
then_starts w name path first many p = starts_from p.1 w name path first many >>= (λ q. Ok (p.0 ∷ q.0, q.1))

start_here : (s : SceneNow) (w : FilledWord) (name path : List ℕ) (number k : ℕ) (r : Result (Burst × SceneNow) Fault) → start_in s w name (Some number) path ≡ r
    → starts_from s w name path number (suc k) ≡ (r >>= then_starts w name path (number + 1) k)
start_here s w name path number k r e = ap (λ (q : Result (Burst × SceneNow) Fault). q >>= then_starts w name path (number + 1) k) e

pub start_more : (s later : SceneNow) (w : FilledWord) (name path : List ℕ) (number last : ℕ) (b : Burst) (got next : List Burst) (whole : Result (List Burst × SceneNow) Fault) → number ≤ last
    → start_in s w name (Some number) path ≡ Ok (b, later) → next ≡ got ++ b ∷ [] → onto_all got (starts_from s w name path number (last + 1 - number)) ≡ whole
    → onto_all next (starts_from later w name path (number + 1) (last + 1 - (number + 1))) ≡ whole
start_more s later w name path number last b got next whole within there pushed held =
    let k = last - number in
    let many : last + 1 - number ≡ suc k = omega arith in
    let left : last + 1 - (number + 1) ≡ k = omega arith in
    ap (λ (l : List Burst). onto_all l (starts_from later w name path (number + 1) (last + 1 - (number + 1)))) pushed
    ∙ ap (λ n. onto_all (got ++ b ∷ []) (starts_from later w name path (number + 1) n)) left
    ∙ sym (all_next got b (starts_from later w name path (number + 1) k))
    ∙ sym (ap (onto_all got) (start_here s w name path number k (Ok (b, later)) there))
    ∙ sym (ap (λ n. onto_all got (starts_from s w name path number n)) many)
    ∙ held

pub start_faulty : (s : SceneNow) (w : FilledWord) (name path : List ℕ) (number last : ℕ) (got : List Burst) (f : Fault) (whole : Result (List Burst × SceneNow) Fault) → number ≤ last
    → onto_all got (starts_from s w name path number (last + 1 - number)) ≡ whole → start_in s w name (Some number) path ≡ Err f → whole ≡ Err f
start_faulty s w name path number last got f whole within held faulty =
    let k = last - number in
    let many : last + 1 - number ≡ suc k = omega arith in
    sym held ∙ ap (λ n. onto_all got (starts_from s w name path number n)) many ∙ ap (onto_all got) (start_here s w name path number k (Err f) faulty)

pub starts_ended : (s : SceneNow) (w : FilledWord) (name path : List ℕ) (number last : ℕ) (got : List Burst) (whole : Result (List Burst × SceneNow) Fault) → last + 1 ≤ number
    → onto_all got (starts_from s w name path number (last + 1 - number)) ≡ whole → whole ≡ Ok (got, s)
starts_ended s w name path number last got whole ended held =
    let none : last + 1 - number ≡ zero = omega arith in
    sym held ∙ ap (λ n. onto_all got (starts_from s w name path number n)) none ∙ ap (ok_all s) (append-nil got)

-- ---- acts

front : (ts : List ℕ) (k : ℕ) → k < length ts → drop k ts ≡ get_or ts k 0 ∷ drop (k + 1) ts
front ts k within = drop-cons ts k 0 within ∙ (rw add-one refl)

abbrev then_acts : List FilledWord → List ℕ → Burst × SceneNow → Result (List Burst × SceneNow) Fault
then_acts ws ts p = acts_from p.1 ws ts >>= (λ q. Ok (p.0 ∷ q.0, q.1))

act_here : (s : SceneNow) (ws : List FilledWord) (t : ℕ) (ts : List ℕ) (r : Result (Burst × SceneNow) Fault) → act_line s ws t ≡ r → acts_from s ws (t ∷ ts) ≡ (r >>= then_acts ws ts)
act_here s ws t ts r e = ap (λ (q : Result (Burst × SceneNow) Fault). q >>= then_acts ws ts) e

pub act_more : (s later : SceneNow) (ws : List FilledWord) (ts : List ℕ) (k : ℕ) (b : Burst) (got next : List Burst) (whole : Result (List Burst × SceneNow) Fault) → k < length ts
    → act_line s ws (get_or ts k 0) ≡ Ok (b, later) → next ≡ got ++ b ∷ [] → onto_all got (acts_from s ws (drop k ts)) ≡ whole
    → onto_all next (acts_from later ws (drop (k + 1) ts)) ≡ whole
act_more s later ws ts k b got next whole within there pushed held =
    ap (λ (l : List Burst). onto_all l (acts_from later ws (drop (k + 1) ts))) pushed
    ∙ sym (all_next got b (acts_from later ws (drop (k + 1) ts)))
    ∙ sym (ap (onto_all got) (act_here s ws (get_or ts k 0) (drop (k + 1) ts) (Ok (b, later)) there))
    ∙ sym (ap (λ (l : List ℕ). onto_all got (acts_from s ws l)) (front ts k within))
    ∙ held

pub act_faulty : (s : SceneNow) (ws : List FilledWord) (ts : List ℕ) (k : ℕ) (got : List Burst) (f : Fault) (whole : Result (List Burst × SceneNow) Fault) → k < length ts
    → onto_all got (acts_from s ws (drop k ts)) ≡ whole → act_line s ws (get_or ts k 0) ≡ Err f → whole ≡ Err f
act_faulty s ws ts k got f whole within held faulty =
    sym held ∙ ap (λ (l : List ℕ). onto_all got (acts_from s ws l)) (front ts k within) ∙ ap (onto_all got) (act_here s ws (get_or ts k 0) (drop (k + 1) ts) (Err f) faulty)

pub acts_ended : (s : SceneNow) (ws : List FilledWord) (ts : List ℕ) (k : ℕ) (got : List Burst) (whole : Result (List Burst × SceneNow) Fault) → length ts ≤ k
    → onto_all got (acts_from s ws (drop k ts)) ≡ whole → whole ≡ Ok (got, s)
acts_ended s ws ts k got whole ended held = sym held ∙ ap (λ (l : List ℕ). onto_all got (acts_from s ws l)) (drop_all k ts ended) ∙ ap (ok_all s) (append-nil got)
