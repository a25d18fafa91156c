-- Tasks by their names, and lists that are padded.
use Rattle.std.proofs.Common.{◌≡◌, ℕ, ◌+◌, ◌-◌, ◌≤◌, Bool, true, false, cond, not, eqb, nat_lt, List, [], ◌∷◌, ◌++◌, length, map, max, replicate, position, slice_get, Option, Some, None, refl, sym, ap, ◌∙◌, append_assoc, arith}
use Rattle.std.specs.List.{list_any, position_or_len}
use Rattle.std.specs.Option.{option_map}
use Rattle.std.proofs.lemmas.List.{length-map, replicate_more}
use Rattle.std.proofs.lemmas.List.Sums.{prefix_len-le-length}
use Rattle.std.proofs.lemmas.Bool.Decides.{nat_tests}
use Rattle.scenario_lines.specs.declared.tasks.Started.{Started}
use Rattle.std.proofs.lemmas.Option.{slice_get-map}
use Rattle.std.specs.String.{string_bytes}
use Rattle.scenario_lines.specs.Tasks.{StartedTask, started_task, task_numbered}

-- ---- a test of what tasks are, and one of the tasks

first_seen : (p : StartedTask → Bool) (q : Started → Bool) → ((k : Started) → p (started_task k) ≡ q k) → (ks : List Started) → position_or_len p (map started_task ks) ≡ position_or_len q ks
first_seen p q same [] = refl
first_seen p q same (k ∷ ks) = let e = same k in let r = first_seen p q same ks in cc

pub position_seen : (p : StartedTask → Bool) (q : Started → Bool) → ((k : Started) → p (started_task k) ≡ q k) → (ks : List Started) → position p (map started_task ks) ≡ position q ks
position_seen p q same ks = let e = first_seen p q same ks in let l = length-map ks started_task in cc

all_fail : {A : Type 0} (p : A → Bool) (xs : List A) → position_or_len p xs ≡ length xs → list_any p xs ≡ false
all_fail p [] e = refl
all_fail p (x ∷ xs) e = by (p x) refl (λ h. all_fail p xs h)
  where
    by : (b : Bool) → p x ≡ b → (position_or_len p xs ≡ length xs → list_any p xs ≡ false) → list_any p (x ∷ xs) ≡ false
    by true q more = absurd (omega (arith, rw q at e))
    by false q more = rw q (more (omega (arith, rw q at e)))

past_end : (a b : ℕ) → a ≤ b → cond (nat_lt a b) (Some a) None ≡ None → a ≡ b
past_end a b within e = grind (arith, nat_tests)

pub none_passes : {A : Type 0} (p : A → Bool) (xs : List A) → position p xs ≡ None → list_any p xs ≡ false
none_passes p xs e = all_fail p xs (past_end (position_or_len p xs) (length xs) (prefix_len-le-length (λ x. not (p x)) xs) e)

-- ---- lists that are padded

pub one_more : {X : Type 0} (xs now next : List X) (k : ℕ) (x : X) → length xs ≤ k → now ≡ xs ++ replicate (k - length xs) x → next ≡ now ++ x ∷ [] → next ≡ xs ++ replicate (k + 1 - length xs) x
one_more xs now next k x within held pushed =
    let e : k + 1 - length xs ≡ k - length xs + 1 = omega arith in
    pushed ∙ ap (λ l. l ++ x ∷ []) held ∙ append_assoc xs _ _ ∙ ap (λ r. xs ++ r) (replicate_more (k - length xs) x) ∙ ap (λ n. xs ++ replicate n x) (sym e)

pub all_padded : {X : Type 0} (xs now : List X) (k many : ℕ) (x : X) → length xs ≤ k → k ≤ max many (length xs) → many ≤ k → now ≡ xs ++ replicate (k - length xs) x → now ≡ xs ++ replicate (many - length xs) x
all_padded xs now k many x from to ended held =
    let e : k - length xs ≡ many - length xs = omega arith in
    held ∙ ap (λ n. xs ++ replicate n x) e

-- ---- numbers of tasks

-- no number, so no place
pub absent : (o : Option ℕ) → option_map (λ place. place + 1) o ≡ None → o ≡ None
absent None e = refl
absent (Some place) e = absurd (cc)

pub numbered : (ks : List Started) (task place : ℕ) (t : Started) (name : List ℕ) → 1 ≤ task → place ≡ task - 1 → Some t ≡ slice_get ks place → name ≡ string_bytes t.name
    → Some (record { name = name; index = t.index }) ≡ task_numbered (map started_task ks) task
numbered ks task place t name some at there same =
    let no : eqb task 0 ≡ false = grind (arith, nat_tests) in
    let e : slice_get (map started_task ks) (task - 1) ≡ Some (started_task t) = slice_get-map started_task ks (task - 1) ∙ ap (option_map started_task) (ap (slice_get ks) (sym at) ∙ sym there) in
    rw (no, e, same) refl
