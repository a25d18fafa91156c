-- Workers, one after another.
use Rattle.std.proofs.Common.{◌≡◌, inl, inr, ℕ, zero, suc, ◌+◌, ◌<◌, ◌≤◌, ◌==◌, Bool, true, false, List, [], ◌∷◌, ◌++◌, length, refl, sym, ap, ◌∙◌, subst, arith}
use Rattle.std.specs.Prelude.{if◌then◌else◌, slice_index_or, slice_set, nat_eq, nat_lt, cond, Option, Some, None, IfSome, IfNone, position, ◌||◌}
use Rattle.std.specs.List.{list_any, position_or_len}
use Rattle.std.proofs.lemmas.Bool.Decides.{nat_tests}
use Rattle.std.proofs.lemmas.List.{map-append, append-nil, length_push}
use Rattle.std.proofs.lemmas.List.Recursion.{is_position_or_len}
use Rattle.machine.specs.declared.command.Actor.{Actor}
use Rattle.machine.specs.declared.command.Command.{Command}
use Rattle.machine.specs.declared.command.Reply.{Reply}
use Rattle.machine.specs.State.{Opening}
use Rattle.live.specs.declared.history.Exchange.{Exchange}
use Rattle.live.specs.Crews.{WorkerOf}
use Rattle.scripts.specs.Work.{number_of, numbers_of}
use Rattle.thread_runs.specs.Threads.{Piece}
use Rattle.thread_runs.specs.Crews.{is_at, numbers_at, place_of, board_of, jobs_of, Hires, Asked}
use Rattle.thread_runs.specs.Rounds.{NotAmong, IsApart}
use Rattle.thread_runs.proofs.Boards.{own_at, piece_from, set_piece}

-- ---- places by numbers

abbrev first_at : ℕ → List ℕ → ℕ
first_at n [] = 0
first_at n (k ∷ ks) = cond (nat_eq n k) 0 (1 + first_at n ks)

same_test : (a b : ℕ) → (a == b) ≡ nat_eq b a
same_test a b = grind (arith, nat_tests)

place_of-first : (who : Actor) (ws : List WorkerOf) → place_of who ws ≡ first_at (number_of who) (numbers_at ws)
place_of-first who [] = refl
place_of-first who (w ∷ ws) =
    let before = place_of-first who ws in
    let next : suc (place_of who ws) ≡ 1 + first_at (number_of who) (numbers_at ws) = omega (arith, before) in
    ap (λ b. cond b 0 (suc (place_of who ws))) (same_test (number_of w.actor) (number_of who)) ∙ ap (λ n. cond (nat_eq (number_of who) (number_of w.actor)) 0 n) next

place_of-number : (who : Actor) (ws : List WorkerOf) → position_or_len (nat_eq (number_of who)) (numbers_at ws) ≡ place_of who ws
place_of-number who ws = sym (place_of-first who ws ∙ is_position_or_len (first_at (number_of who)) (nat_eq (number_of who)) refl (λ k ks. refl) (numbers_at ws))

length-numbers : (ws : List WorkerOf) → length (numbers_at ws) ≡ length ws
length-numbers [] = refl
length-numbers (w ∷ ws) = ap suc (length-numbers ws)

place_of-most : (who : Actor) (ws : List WorkerOf) → place_of who ws ≤ length ws
place_of-most who [] = omega arith
place_of-most who (w ∷ ws) = by_test (is_at who w) (place_of-most who ws)
  where
    by_test : (b : Bool) → place_of who ws ≤ length ws → (if b then 0 else suc (place_of who ws)) ≤ suc (length ws)
    by_test true ih = omega arith
    by_test false ih = omega arith

module _ (who : Actor) (ws : List WorkerOf) where
  looked_up : position (nat_eq (number_of who)) (numbers_at ws) ≡ cond (nat_lt (place_of who ws) (length ws)) (Some (place_of who ws)) None
  looked_up = rw (place_of-number who ws, length-numbers ws) refl

  found_at : (place : ℕ) → Some place ≡ position (nat_eq (number_of who)) (numbers_at ws) → (place ≡ place_of who ws) × (place < length ws)
  found_at place found = by_test (nat_lt (place_of who ws) (length ws)) refl (found ∙ looked_up)
    where
      by_test : (b : Bool) → nat_lt (place_of who ws) (length ws) ≡ b → Some place ≡ cond b (Some (place_of who ws)) None → (place ≡ place_of who ws) × (place < length ws)
      by_test true is e = let same : place ≡ place_of who ws = cc in (same, grind (arith, nat_tests, is, same))
      by_test false is e = cc

  missing_at : None ≡ position (nat_eq (number_of who)) (numbers_at ws) → place_of who ws ≡ length ws
  missing_at missing = by_test (nat_lt (place_of who ws) (length ws)) refl (missing ∙ looked_up)
    where
      by_test : (b : Bool) → nat_lt (place_of who ws) (length ws) ≡ b → None ≡ cond b (Some (place_of who ws)) None → place_of who ws ≡ length ws
      by_test true is e = cc
      by_test false is e = let most = place_of-most who ws in grind (arith, nat_tests, is, most)

module _ (who : Actor) (ws : List WorkerOf) where
  pub find-found : (found : Option ℕ) → found ≡ position (nat_eq (number_of who)) (numbers_at ws) → IfSome found (λ place. (place ≡ place_of who ws) × (place < length ws))
  find-found None e = tt
  find-found (Some place) e = found_at who ws place e

  pub find-missing : (found : Option ℕ) → found ≡ position (nat_eq (number_of who)) (numbers_at ws) → IfNone found (place_of who ws ≡ length ws)
  find-missing None e = missing_at who ws e
  find-missing (Some place) e = tt

-- the number of an actor who has no worker is none of theirs
pub number_missing : (who : Actor) (ws : List WorkerOf) → place_of who ws ≡ length ws → list_any (nat_eq (number_of who)) (numbers_at ws) ≡ false
number_missing who [] h = refl
number_missing who (w ∷ ws) h = by_test (is_at who w) refl h (number_missing who ws)
  where
    by_test : (b : Bool) → is_at who w ≡ b → (if b then 0 else suc (place_of who ws)) ≡ suc (length ws)
        → (place_of who ws ≡ length ws → list_any (nat_eq (number_of who)) (numbers_at ws) ≡ false)
        → (nat_eq (number_of who) (number_of w.actor) || list_any (nat_eq (number_of who)) (numbers_at ws)) ≡ false
    by_test true is h ih = absurd (omega arith)
    by_test false is h ih = rw (sym (same_test (number_of w.actor) (number_of who)) ∙ is) (ih (omega arith))

pub numbers-push : (ws : List WorkerOf) (w : WorkerOf) → numbers_at (ws ++ w ∷ []) ≡ numbers_at ws ++ number_of w.actor ∷ []
numbers-push ws w = map-append (λ (v : WorkerOf). number_of v.actor) ws (w ∷ [])

pub numbers_of_jobs : (ws : List WorkerOf) → numbers_of (jobs_of ws) ≡ numbers_at ws
numbers_of_jobs [] = refl
numbers_of_jobs (w ∷ ws) = ap (λ (ns : List ℕ). number_of w.actor ∷ ns) (numbers_of_jobs ws)

-- ---- a worker in the place of another, of the same actor

pub numbers-set : (ws : List WorkerOf) (k : ℕ) (v d : WorkerOf) → k < length ws → v.actor ≡ (slice_index_or ws k d).actor → numbers_at (slice_set ws k v) ≡ numbers_at ws
numbers-set [] k v d within same = absurd (omega arith)
numbers-set (w ∷ ws) zero v d within same = ap (λ (a : Actor). number_of a ∷ numbers_at ws) same
numbers-set (w ∷ ws) (suc k) v d within same = ap (λ (ns : List ℕ). number_of w.actor ∷ ns) (numbers-set ws k v d (omega arith) same)

abbrev Job : Type 0
Job = Actor × List Command

jobs-set : (ws : List WorkerOf) (k : ℕ) (v : WorkerOf) → k < length ws → v.actor ≡ (slice_index_or ws k v).actor → v.commands ≡ (slice_index_or ws k v).commands → jobs_of (slice_set ws k v) ≡ jobs_of ws
jobs-set [] k v within same does = absurd (omega arith)
jobs-set (w ∷ ws) zero v within same does = ap (λ (a : Actor). (a, v.commands) ∷ jobs_of ws) same ∙ ap (λ (cs : List Command). (w.actor, cs) ∷ jobs_of ws) does
jobs-set (w ∷ ws) (suc k) v within same does = ap (λ (js : List Job). (w.actor, w.commands) ∷ js) (jobs-set ws k v (omega arith) same does)

-- ---- a worker more

board-push : (ws : List WorkerOf) (w : WorkerOf) (who : Actor) → w.pass.exchanges ≡ [] → board_of (ws ++ w ∷ []) who ≡ board_of ws who
board-push [] w who fresh = by_test (is_at who w)
  where
    by_test : (b : Bool) → (if b then w.pass.exchanges else []) ≡ []
    by_test true = fresh
    by_test false = refl
board-push (v ∷ ws) w who fresh = ap (λ (ks : List Exchange). if is_at who v then v.pass.exchanges else ks) (board-push ws w who fresh)

-- none of these is the number
abbrev NoneIs : ℕ → List ℕ → Type 0
NoneIs n [] = Unit {0}
NoneIs n (k ∷ ks) = ((k == n) ≡ false) × NoneIs n ks

none_is : (who : Actor) (ws : List WorkerOf) → place_of who ws ≡ length ws → NoneIs (number_of who) (numbers_of (jobs_of ws))
none_is who [] h = tt
none_is who (w ∷ ws) h = by_test (is_at who w) refl h (none_is who ws)
  where
    by_test : (b : Bool) → is_at who w ≡ b → (if b then 0 else suc (place_of who ws)) ≡ suc (length ws)
        → (place_of who ws ≡ length ws → NoneIs (number_of who) (numbers_of (jobs_of ws)))
        → ((number_of w.actor == number_of who) ≡ false) × NoneIs (number_of who) (numbers_of (jobs_of ws))
    by_test true is h ih = absurd (omega arith)
    by_test false is h ih = (is, ih (omega arith))

not_among-push : (n m : ℕ) (ks : List ℕ) → NotAmong n ks → (n == m) ≡ false → NotAmong n (ks ++ m ∷ [])
not_among-push n m [] h e = (e, tt)
not_among-push n m (k ∷ ks) h e = (h.0, not_among-push n m ks h.1 e)

apart-push : (ns : List ℕ) (m : ℕ) → IsApart ns → NoneIs m ns → IsApart (ns ++ m ∷ [])
apart-push [] m h none = (tt, tt)
apart-push (n ∷ ns) m h none = (not_among-push n m ns h.0 none.0, apart-push ns m h.1 none.1)

place-push : (who : Actor) (ws : List WorkerOf) (w : WorkerOf) → place_of who ws ≡ length ws → w.actor ≡ who → place_of who (ws ++ w ∷ []) ≡ length ws
place-push who [] w none is = rw (own_at who w is) refl
place-push who (v ∷ ws) w none is = by_test (is_at who v) none (λ h. place-push who ws w h is)
  where
    by_test : (b : Bool) → (if b then 0 else suc (place_of who ws)) ≡ suc (length ws) → (place_of who ws ≡ length ws → place_of who (ws ++ w ∷ []) ≡ length ws)
        → (if b then 0 else suc (place_of who (ws ++ w ∷ []))) ≡ suc (length ws)
    by_test true h ih = absurd (omega arith)
    by_test false h ih = ap suc (ih (omega arith))

-- ---- hiring

pub hires-place : (who : Actor) (commands : List Command) (old new : List WorkerOf) → Hires who commands old new → (place_of who new ≡ length old) × (length old < length new)
hires-place who commands old new hired =
    let size : length new ≡ length old + 1 = ap length hired.hired ∙ length_push old _ in
    (ap (λ (ws : List WorkerOf). place_of who ws) hired.hired ∙ place-push who old _ hired.none refl, omega (arith, size))

module _ (who : Actor) (commands : List Command) (old new : List WorkerOf) (hired : Hires who commands old new) where
  pub hires-board : (other : Actor) → board_of new other ≡ board_of old other
  hires-board other = subst (λ (ws : List WorkerOf). board_of ws other ≡ board_of old other) (sym hired.hired) (board-push old _ other hired.fresh)

  pub hires-jobs : jobs_of new ≡ jobs_of old ++ (who, commands) ∷ []
  hires-jobs = ap (λ (ws : List WorkerOf). jobs_of ws) hired.hired ∙ map-append (λ (w : WorkerOf). (w.actor, w.commands)) old _

  pub hires-apart : IsApart (numbers_of (jobs_of old)) → IsApart (numbers_of (jobs_of new))
  hires-apart apart =
      let numbers : numbers_of (jobs_of new) ≡ numbers_of (jobs_of old) ++ number_of who ∷ [] = ap (λ (js : List Job). numbers_of js) hires-jobs ∙ map-append (λ (j : Job). number_of j.0) (jobs_of old) ((who, commands) ∷ []) in
      subst IsApart (sym numbers) (apart-push (numbers_of (jobs_of old)) (number_of who) apart (none_is who old hired.none))

-- ---- a command that is answered at once

module _ (opening : Opening) (who : Actor) (command : Command) (old new : List WorkerOf) (said : List Reply) (asked : Asked opening who command old new said) where
  abbrev was : WorkerOf
  was = slice_index_or asked.mid (place_of who asked.mid) asked.worker

  mid-board : (other : Actor) → board_of asked.mid other ≡ board_of old other
  mid-board other = elim asked.there [
    | inl same ↦ ap (λ (ws : List WorkerOf). board_of ws other) same
    | inr hired ↦ hires-board who [] old asked.mid hired other
  ]

  pub asked-piece : Piece opening who (command ∷ []) (board_of old) said (board_of new)
  asked-piece =
      let answered = asked.answered in
      let here : Piece opening who (command ∷ []) (board_of asked.mid) said (board_of (slice_set asked.mid (place_of who asked.mid) asked.worker)) =
      set_piece opening who (command ∷ []) asked.mid asked.worker said asked.within answered.actor answered.worked in
      subst (λ (ws : List WorkerOf). Piece opening who (command ∷ []) (board_of old) said (board_of ws)) (sym asked.changed)
      (piece_from opening who (command ∷ []) (board_of asked.mid) (board_of old) _ said mid-board here)

  kept-jobs : jobs_of new ≡ jobs_of asked.mid
  kept-jobs = ap (λ (ws : List WorkerOf). jobs_of ws) asked.changed ∙ jobs-set asked.mid (place_of who asked.mid) asked.worker asked.within asked.answered.actor asked.answered.commands

  pub asked-more : (more : List Job) × (jobs_of new ≡ jobs_of old ++ more)
  asked-more = elim asked.there [
    | inl same ↦ ([], kept-jobs ∙ ap (λ (ws : List WorkerOf). jobs_of ws) same ∙ sym (append-nil (jobs_of old)))
    | inr hired ↦ ((who, []) ∷ [], kept-jobs ∙ hires-jobs who [] old asked.mid hired)
  ]

  pub asked-apart : IsApart (numbers_of (jobs_of old)) → IsApart (numbers_of (jobs_of new))
  asked-apart apart =
      let mid : IsApart (numbers_of (jobs_of asked.mid)) = elim asked.there [
        | inl same ↦ subst (λ (ws : List WorkerOf). IsApart (numbers_of (jobs_of ws))) (sym same) apart
        | inr hired ↦ hires-apart who [] old asked.mid hired apart
      ] in
      subst (λ (js : List Job). IsApart (numbers_of js)) (sym kept-jobs) mid
