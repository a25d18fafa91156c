-- What is known between two lines.
use Rattle.std.proofs.Common.{◌≡◌, ℕ, zero, suc, ◌+◌, ◌-◌, ◌<◌, ◌≤◌, Bool, cond, not, nat_lt, List, [], ◌∷◌, ◌++◌, length, drop, position, slice_get, Option, Some, None, Result, Ok, Err, refl, sym, ap, ◌∙◌, append-nil, append_assoc, drop-cons, add-one, arith}
use Rattle.std.specs.List.{before_first, after_first, position_or_len, remove}
use Rattle.std.proofs.lemmas.Bool.Decides.{nat_tests}
use Rattle.std.proofs.lemmas.List.Sums.{prefix_len-le-length}
use Rattle.std.proofs.lemmas.Option.{slice_get_within}
use Rattle.std.proofs.lemmas.List.{take_all, drop_all}
use Rattle.scenario_words.specs.declared.fault.ExpandError.{ExpandError}
use Rattle.scenario_words.specs.declared.fault.ExpandError.TheVariants as error
use Rattle.scenario_words.specs.Faults.{Gives, ◌>>=◌}
use Rattle.scenario_words.specs.Words.{FilledWord, or_missing, word_at}
use Rattle.scenario_words.specs.declared.fault.Fault.{Fault}
use Rattle.scenario_lines.specs.Scene.{one_task, tasks_from}
use Rattle.scenario_lines.specs.Tasks.{StartedTask}

found : (ws : List FilledWord) (o : Option FilledWord) (w : FilledWord) → or_missing ws o ≡ Ok w → o ≡ Some w
found ws None w e = absurd (cc)
found ws (Some v) w e = cc

-- a word that is there has a place within the words
pub word_within : (ws : List FilledWord) (place : ℕ) (w : FilledWord) → word_at ws place ≡ Ok w → place < length ws
word_within ws place w e = slice_get_within ws place w (found ws (slice_get ws place) w e)

-- ---- a list without an element

-- the rest of a list, without its first element
pub one_gone : {A : Type 0} (xs ys : List A) (k : ℕ) (x : A) → k < length xs → ys ≡ remove (drop k xs) 0 → ys ≡ drop (k + 1) xs
one_gone xs ys k x within e = e ∙ (rw (drop-cons xs k x within, add-one) refl)

at_end : (a b : ℕ) → a ≤ b → cond (nat_lt a b) (Some a) None ≡ None → a ≡ b
at_end a b within e = grind (arith, nat_tests)

at_place : (a b i : ℕ) → cond (nat_lt a b) (Some a) None ≡ Some i → a ≡ i
at_place a b i e = grind (arith, nat_tests)

-- none passes, so nothing is left out
pub none_out : {A : Type 0} (p : A → Bool) (xs : List A) → position p xs ≡ None → xs ≡ before_first p xs ++ after_first p xs
none_out p xs e =
    let end = at_end (position_or_len p xs) (length xs) (prefix_len-le-length (λ x. not (p x)) xs) e in
    rw (end, take_all (length xs) xs (omega arith), drop_all (length xs + 1) xs (omega arith)) (sym (append-nil xs))

pub one_out : {A : Type 0} (p : A → Bool) (xs : List A) (i : ℕ) → position p xs ≡ Some i → remove xs i ≡ before_first p xs ++ after_first p xs
one_out p xs i e = rw (at_place (position_or_len p xs) (length xs) i e, add-one) refl

-- ---- results of calls whose faults are handed on

-- a call gave this value
pub given : {T U : Type 0} (shown : T → U) (x : T) (expected : Result U Fault) → Gives shown (Ok x) expected → expected ≡ Ok (shown x)
given shown x expected h = h

-- a fault, or that memory ran out, is the one that is expected
pub same_fault : {T U V W : Type 0} (shown : T → U) (shown' : V → W) (e : ExpandError) (expected : Result U Fault) (whole : Result W Fault)
    → ((f : Fault) → expected ≡ Err f → whole ≡ Err f) → Gives shown (Err e) expected → Gives shown' (Err e) whole
same_fault shown shown' error.Memory expected whole more h = tt
same_fault shown shown' (error.Faulty f) expected whole more h = more f h

-- ---- tasks from one number to another

-- tasks before others
abbrev pub onto_tasks : List ℕ → Result (List ℕ) Fault → Result (List ℕ) Fault
onto_tasks got more = more >>= (λ others. Ok (got ++ others))

abbrev ok_tasks : List ℕ → Result (List ℕ) Fault
ok_tasks l = Ok l

onto_none : (r : Result (List ℕ) Fault) → onto_tasks [] r ≡ r
onto_none (Ok ts) = refl
onto_none (Err f) = refl

onto_next : (got : List ℕ) (task : ℕ) (r : Result (List ℕ) Fault) → onto_tasks got (r >>= (λ ts. Ok (task ∷ ts))) ≡ onto_tasks (got ++ task ∷ []) r
onto_next got task (Ok ts) = ap ok_tasks (sym (append_assoc got (task ∷ []) ts))
onto_next got task (Err f) = refl

pub tasks_begun : (got : List ℕ) (r : Result (List ℕ) Fault) → got ≡ [] → onto_tasks got r ≡ r
tasks_begun got r e = ap (λ (l : List ℕ). onto_tasks l r) e ∙ onto_none r

from_here : (started : List StartedTask) (w : FilledWord) (name : List ℕ) (number k : ℕ) (r : Result ℕ Fault) → one_task started w name (Some number) ≡ r
    → tasks_from started w name number (suc k) ≡ (r >>= (λ task. tasks_from started w name (number + 1) k >>= (λ ts. Ok (task ∷ ts))))
from_here started w name number k r e = ap (λ (q : Result ℕ Fault). q >>= (λ task. tasks_from started w name (number + 1) k >>= (λ ts. Ok (task ∷ ts)))) e

pub task_more : (started : List StartedTask) (w : FilledWord) (name : List ℕ) (number last task : ℕ) (got next : List ℕ) (whole : Result (List ℕ) Fault) → number ≤ last
    → one_task started w name (Some number) ≡ Ok task → next ≡ got ++ task ∷ [] → onto_tasks got (tasks_from started w name number (last + 1 - number)) ≡ whole
    → onto_tasks next (tasks_from started w name (number + 1) (last + 1 - (number + 1))) ≡ whole
task_more started w name number last task got next whole within there pushed held =
    let k = last - number in
    let many : last + 1 - number ≡ suc k = omega arith in
    let left : last + 1 - (number + 1) ≡ k = omega arith in
    let rest = tasks_from started w name (number + 1) k in
    ap (λ (l : List ℕ). onto_tasks l (tasks_from started w name (number + 1) (last + 1 - (number + 1)))) pushed
    ∙ ap (λ n. onto_tasks (got ++ task ∷ []) (tasks_from started w name (number + 1) n)) left
    ∙ sym (onto_next got task rest)
    ∙ sym (ap (onto_tasks got) (from_here started w name number k (Ok task) there))
    ∙ sym (ap (λ n. onto_tasks got (tasks_from started w name number n)) many)
    ∙ held

pub task_missing : (started : List StartedTask) (w : FilledWord) (name : List ℕ) (number last : ℕ) (got : List ℕ) (f : Fault) (whole : Result (List ℕ) Fault) → number ≤ last
    → onto_tasks got (tasks_from started w name number (last + 1 - number)) ≡ whole → one_task started w name (Some number) ≡ Err f → whole ≡ Err f
task_missing started w name number last got f whole within held missing =
    let k = last - number in
    let many : last + 1 - number ≡ suc k = omega arith in
    sym held ∙ ap (λ n. onto_tasks got (tasks_from started w name number n)) many ∙ ap (onto_tasks got) (from_here started w name number k (Err f) missing)

pub tasks_ended : (started : List StartedTask) (w : FilledWord) (name : List ℕ) (number last : ℕ) (got : List ℕ) (whole : Result (List ℕ) Fault) → last + 1 ≤ number
    → onto_tasks got (tasks_from started w name number (last + 1 - number)) ≡ whole → whole ≡ Ok got
tasks_ended started w name number last got whole ended held =
    let none : last + 1 - number ≡ zero = omega arith in
    sym held ∙ ap (λ n. onto_tasks got (tasks_from started w name number n)) none ∙ ap ok_tasks (append-nil got)
