-- Boards of workers, and the pieces by which they go on.
use Rattle.std.proofs.Common.{◌≡◌, suc, ◌<◌, Bool, true, false, List, [], ◌∷◌, ◌++◌, length, eqb-true, eq-eqb, ne_eqb, append_assoc, refl, sym, ap, ◌∙◌, subst, arith}
use Rattle.std.specs.Prelude.{◌≢◌, if◌then◌else◌, slice_index_or, slice_set, Result, Ok, Err, IfOk}
use Rattle.machine.specs.declared.command.Actor.{Actor}
use Rattle.machine.specs.declared.command.Actor.TheVariants as actor
use Rattle.machine.specs.declared.command.Command.{Command}
use Rattle.machine.specs.declared.command.Reply.{Reply}
use Rattle.machine.specs.declared.refusal.Refusal.{Refusal}
use Rattle.machine.specs.State.{Opening}
use Rattle.live.specs.declared.history.Exchange.{Exchange}
use Rattle.live.specs.Crews.{WorkerOf, HasWorked, HaveWorked}
use Rattle.live.specs.Works.{Worked}
use Rattle.scripts.specs.Work.{number_of, numbers_of}
use Rattle.thread_runs.specs.Threads.{Board, Piece, Pieces}
use Rattle.thread_runs.specs.Crews.{is_at, place_of, board_of, jobs_of}
use Rattle.thread_runs.specs.Rounds.{NotAmong, IsApart, AnswersAre}

-- ---- actors by their numbers

pub same_actor : (a b : Actor) → number_of a ≡ number_of b → a ≡ b
same_actor actor.Shell actor.Shell e = refl
same_actor actor.Shell actor.Control e = absurd (omega arith)
same_actor actor.Shell actor.Daemon e = absurd (omega arith)
same_actor actor.Shell (actor.Task n) e = absurd (omega arith)
same_actor actor.Control actor.Shell e = absurd (omega arith)
same_actor actor.Control actor.Control e = refl
same_actor actor.Control actor.Daemon e = absurd (omega arith)
same_actor actor.Control (actor.Task n) e = absurd (omega arith)
same_actor actor.Daemon actor.Shell e = absurd (omega arith)
same_actor actor.Daemon actor.Control e = absurd (omega arith)
same_actor actor.Daemon actor.Daemon e = refl
same_actor actor.Daemon (actor.Task n) e = absurd (omega arith)
same_actor (actor.Task m) actor.Shell e = absurd (omega arith)
same_actor (actor.Task m) actor.Control e = absurd (omega arith)
same_actor (actor.Task m) actor.Daemon e = absurd (omega arith)
same_actor (actor.Task m) (actor.Task n) e = let same : m ≡ n = omega arith in ap actor.Task same

pub own_at : (who : Actor) (w : WorkerOf) → w.actor ≡ who → is_at who w ≡ true
own_at who w e = eq-eqb (number_of w.actor) (number_of who) (ap (λ (a : Actor). number_of a) e)

other_at : (who : Actor) (w : WorkerOf) → who ≢ w.actor → is_at who w ≡ false
other_at who w differs = ne_eqb (number_of w.actor) (number_of who) (λ same. differs (sym (same_actor w.actor who same)))

pub at_own : (who : Actor) (w : WorkerOf) → is_at who w ≡ true → w.actor ≡ who
at_own who w e = same_actor w.actor who (eqb-true (number_of w.actor) (number_of who) e)

-- ---- a worker before others

-- what was exchanged with the worker's pass is seen first
abbrev pub over : WorkerOf → Board → Board
over w board who = if is_at who w then w.pass.exchanges else board who

abbrev pub boards : List WorkerOf → Board → Board
boards [] board = board
boards (w ∷ ws) board = over w (boards ws board)

pub board_of-append : (ws us : List WorkerOf) → board_of (ws ++ us) ≡ boards ws (board_of us)
board_of-append [] us = refl
board_of-append (w ∷ ws) us = ap (λ (board : Board). over w board) (board_of-append ws us)

pub own_kept : (w : WorkerOf) (board : Board) (who : Actor) → w.actor ≡ who → over w board who ≡ w.pass.exchanges
own_kept w board who e = rw (own_at who w e) refl

pub other_kept : (w : WorkerOf) (board : Board) (who : Actor) → is_at who w ≡ false → over w board who ≡ board who
other_kept w board who e = rw e refl

-- ---- one piece

module _ (opening : Opening) where
  -- the board before it may be another that shows the same
  pub piece_from : (who : Actor) (commands : List Command) (before shown after : Board) (said : List Reply) → ((other : Actor) → before other ≡ shown other) → Piece opening who commands before said after → Piece opening who commands shown said after
  piece_from who commands before shown after said same piece = record {
    did = subst (λ (ks : List Exchange). Worked opening who commands ks (after who) said) (same who) piece.did;
    others = λ other differs. piece.others other differs ∙ same other;
  }

  pub pieces_from : (ps : List (Actor × List Command)) (before shown after : Board) (said : List Reply) → ((other : Actor) → before other ≡ shown other) → Pieces opening ps before said after → Pieces opening ps shown said after
  pieces_from [] before shown after said same (none, kept) = (none, λ who. kept who ∙ same who)
  pieces_from (p ∷ ps) before shown after said same (mid, here, later, piece, rest, e) = (mid, here, later, piece_from p.0 p.1 before shown mid here same piece, rest, e)

  pub pieces-append : (ps qs : List (Actor × List Command)) (before mid after : Board) (here later : List Reply) → Pieces opening ps before here mid → Pieces opening qs mid later after → Pieces opening (ps ++ qs) before (here ++ later) after
  pieces-append [] qs before mid after here later (none, kept) rest =
      subst (λ (said : List Reply). Pieces opening qs before said after) (sym (ap (λ (rs : List Reply). rs ++ later) none)) (pieces_from qs mid before after later kept rest)
  pieces-append (p ∷ ps) qs before mid after here later (between, first, second, piece, rest, e) more =
      (between, first, second ++ later, piece, pieces-append ps qs between mid after second later rest more, ap (λ (rs : List Reply). rs ++ later) e ∙ append_assoc first second later)

  -- the worker itself goes on
  pub own_piece : (who : Actor) (commands : List Command) (w v : WorkerOf) (board : Board) (said : List Reply) → w.actor ≡ who → v.actor ≡ who → Worked opening who commands w.pass.exchanges v.pass.exchanges said
      → Piece opening who commands (over w board) said (over v board)
  own_piece who commands w v board said e f worked = record {
    did = subst (λ (ks : List Exchange). Worked opening who commands (over w board who) ks said) (sym (own_kept v board who f)) (subst (λ (ks : List Exchange). Worked opening who commands ks v.pass.exchanges said) (sym (own_kept w board who e)) worked);
    others = λ other differs.
        other_kept v board other (other_at other v (λ same. differs (same ∙ f)))
        ∙ sym (other_kept w board other (other_at other w (λ same. differs (same ∙ e))));
  }

  -- another one does, behind it
  pub piece_over : (w : WorkerOf) (who : Actor) (commands : List Command) (before after : Board) (said : List Reply) → is_at who w ≡ false → Piece opening who commands before said after → Piece opening who commands (over w before) said (over w after)
  piece_over w who commands before after said e piece = record {
    did = subst (λ (ks : List Exchange). Worked opening who commands (over w before who) ks said) (sym (other_kept w after who e)) (subst (λ (ks : List Exchange). Worked opening who commands ks (after who) said) (sym (other_kept w before who e)) piece.did);
    others = λ other differs. ap (λ (ks : List Exchange). if is_at other w then w.pass.exchanges else ks) (piece.others other differs);
  }

  pub pieces_over : (w : WorkerOf) (ps : List (Actor × List Command)) (before after : Board) (said : List Reply) → NotAmong (number_of w.actor) (numbers_of ps) → Pieces opening ps before said after → Pieces opening ps (over w before) said (over w after)
  pieces_over w [] before after said h (none, kept) = (none, λ who. ap (λ (ks : List Exchange). if is_at who w then w.pass.exchanges else ks) (kept who))
  pieces_over w (p ∷ ps) before after said h (mid, here, later, piece, rest, e) =
      (over w mid, here, later, piece_over w p.0 p.1 before mid here h.0 piece, pieces_over w ps mid after later h.1 rest, e)

  -- the actor's worker is put in place
  pub set_piece : (who : Actor) (commands : List Command) (ws : List WorkerOf) (v : WorkerOf) (said : List Reply) → place_of who ws < length ws → v.actor ≡ (slice_index_or ws (place_of who ws) v).actor
      → Worked opening (slice_index_or ws (place_of who ws) v).actor commands (slice_index_or ws (place_of who ws) v).pass.exchanges v.pass.exchanges said → Piece opening who commands (board_of ws) said (board_of (slice_set ws (place_of who ws) v))
  set_piece who commands [] v said within same worked = absurd (omega arith)
  set_piece who commands (w ∷ ws) v said within same worked = by_test (is_at who w) refl (set_piece who commands ws v said) within same worked
    where
      by_test : (b : Bool) → is_at who w ≡ b
          → (place_of who ws < length ws → v.actor ≡ (slice_index_or ws (place_of who ws) v).actor → Worked opening (slice_index_or ws (place_of who ws) v).actor commands (slice_index_or ws (place_of who ws) v).pass.exchanges v.pass.exchanges said
          → Piece opening who commands (board_of ws) said (board_of (slice_set ws (place_of who ws) v)))
          → (if b then 0 else suc (place_of who ws)) < suc (length ws) → v.actor ≡ (slice_index_or (w ∷ ws) (if b then 0 else suc (place_of who ws)) v).actor
          → Worked opening (slice_index_or (w ∷ ws) (if b then 0 else suc (place_of who ws)) v).actor commands (slice_index_or (w ∷ ws) (if b then 0 else suc (place_of who ws)) v).pass.exchanges v.pass.exchanges said
          → Piece opening who commands (over w (board_of ws)) said (board_of (slice_set (w ∷ ws) (if b then 0 else suc (place_of who ws)) v))
      by_test true e ih within same worked =
          let is : w.actor ≡ who = at_own who w e in
          own_piece who commands w v (board_of ws) said is (same ∙ is) (subst (λ (a : Actor). Worked opening a commands w.pass.exchanges v.pass.exchanges said) is worked)
      by_test false e ih within same worked =
          piece_over w who commands (board_of ws) (board_of (slice_set ws (place_of who ws) v)) said e (ih (omega arith) same worked)

-- ---- all work

-- each did what it was to do
abbrev pub EachWorked : Opening → List WorkerOf → List WorkerOf → Type 0
EachWorked opening [] new = new ≡ []
EachWorked opening (w ∷ ws) [] = ⊥
EachWorked opening (w ∷ ws) (v ∷ vs) = HasWorked opening w v × EachWorked opening ws vs

pub each_worked : (opening : Opening) (ws vs : List WorkerOf) → length vs ≡ length ws → HaveWorked opening ws vs → EachWorked opening ws vs
each_worked opening [] [] e h = refl
each_worked opening [] (v ∷ vs) e h = absurd (omega arith)
each_worked opening (w ∷ ws) [] e h = absurd (omega arith)
each_worked opening (w ∷ ws) (v ∷ vs) e h = (h 0 w (omega arith), each_worked opening ws vs (omega arith) (λ k other within. h (suc k) other (omega arith)))

known_answers : (P : List Reply → Type 0) (r : Result (List Reply) Refusal) (here : List Reply) → r ≡ Ok here → IfOk r P → P here
known_answers P (Ok answers) here e h = let same : answers ≡ here = cc in subst P same h
known_answers P (Err cause) here e h = absurd cc

module _ (opening : Opening) where
  pub work_pieces : (ws vs : List WorkerOf) (board : Board) (answers : List Reply) → EachWorked opening ws vs → AnswersAre vs answers → IsApart (numbers_of (jobs_of ws)) → Pieces opening (jobs_of ws) (boards ws board) answers (boards vs board)
  work_pieces [] [] board answers worked said apart = (said, λ who. refl)
  work_pieces [] (v ∷ vs) board answers worked said apart = absurd cc
  work_pieces (w ∷ ws) [] board answers worked said apart = absurd worked
  work_pieces (w ∷ ws) (v ∷ vs) board answers (worked, rest) (here, later, is, are, e) (first, apart) =
      let did : Worked opening w.actor w.commands w.pass.exchanges v.pass.exchanges here = known_answers (λ (answers : List Reply). Worked opening w.actor w.commands w.pass.exchanges v.pass.exchanges answers) v.answers here is worked.answered in
      let among : NotAmong (number_of v.actor) (numbers_of (jobs_of ws)) = subst (λ (a : Actor). NotAmong (number_of a) (numbers_of (jobs_of ws))) (sym worked.actor) first in (
        over v (boards ws board),
        here,
        later,
        own_piece opening w.actor w.commands w v (boards ws board) here refl worked.actor did,
        pieces_over opening v (jobs_of ws) (boards ws board) (boards vs board) later among (work_pieces ws vs board later rest are apart),
        e,
      )
