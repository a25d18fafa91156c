-- The rounds of a run, one behind the other.
use Rattle.std.proofs.Common.{◌≡◌, ℕ, suc, ◌+◌, ◌≤◌, Bool, true, false, List, [], ◌∷◌, ◌++◌, Option, length, map, take, drop, refl, sym, ap, ◌∙◌, subst, append_assoc, length-append, arith}
use Rattle.std.specs.Prelude.{◌≢◌, if◌then◌else◌, Contains, Ok}
use Rattle.std.specs.Io.KnownBytes.{Appends}
use Rattle.std.proofs.KnownBytes.{Appends-nil, Appends-trans}
use Rattle.std.proofs.lemmas.List.{map-append, append-nil, take-append-drop, take-append-le, take-map}
use Rattle.std.proofs.Math.Seq.{take-length}
use Rattle.machine.specs.declared.command.Actor.{Actor}
use Rattle.machine.specs.declared.command.Actor.TheVariants as actor
use Rattle.machine.specs.declared.command.Command.{Command}
use Rattle.machine.specs.declared.command.Command.TheVariants as command
use Rattle.machine.specs.declared.command.Reply.{Reply}
use Rattle.machine.specs.State.{Opening}
use Rattle.live.specs.declared.history.Exchange.{Exchange}
use Rattle.live.specs.Passes.{PassOf}
use Rattle.live.specs.Crews.{WorkerOf, HaveWorked}
use Rattle.live.specs.Works.{Repeated}
use Rattle.scripts.specs.Work.{number_of, numbers_of}
use Rattle.printer.specs.Prints.{texts}
use Rattle.printer.specs.SinkLaws.{texts-append}
use Rattle.thread_runs.specs.Threads.{Board, no_pass, pieces_of, Pieces}
use Rattle.live.specs.Matching.{has_share}
use Rattle.thread_runs.specs.Crews.{is_at, board_of, jobs_of, Hires, Asked, Counts}
use Rattle.thread_runs.specs.Rounds.{NotAmong, IsApart, HiredAll, SetsUp, AnswersAre, SaysRows, passes_in, AreAtRest, AreHandedIn, Ran}
use Rattle.thread_runs.proofs.Boards.{at_own, over, boards, board_of-append, own_kept, other_kept, pieces_from, pieces-append, EachWorked, each_worked, work_pieces}
use Rattle.thread_runs.proofs.HandedLemmas.{rest-append, rest-parts, rest-fresh, passes-append, hires-rest, asked-rest, worked-rest, length-passes}
use Rattle.thread_runs.proofs.CrewLemmas.{hires-board, hires-jobs, hires-apart, asked-piece, asked-more, asked-apart}

abbrev Job : Type 0
Job = Actor × List Command

abbrev Line : Type 0
Line = Actor × Command

-- ---- hiring

pub hired-nil : HiredAll [] []
hired-nil = record { jobs = refl; fresh = λ who. refl; apart = tt; rest = tt }

pub hired-push : (rows : List Job) (who : Actor) (commands : List Command) (old new : List WorkerOf) → HiredAll rows old → Hires who commands old new → HiredAll (rows ++ (who, commands) ∷ []) new
hired-push rows who commands old new all one = record {
  jobs = hires-jobs who commands old new one ∙ ap (λ (js : List Job). js ++ (who, commands) ∷ []) all.jobs;
  fresh = λ other. hires-board who commands old new one other ∙ all.fresh other;
  apart = hires-apart who commands old new one all.apart;
  rest = hires-rest who commands old new one all.rest;
}

-- ---- what stands before the threads go

module _ (opening : Opening) where
  pub sets_up-nil : (ws : List WorkerOf) (a : Option (List ℕ)) → SetsUp opening [] ws ws a a
  sets_up-nil ws a = record { said = []; pieces = (refl, λ who. refl); more = []; jobs = sym (append-nil (jobs_of ws)); apart = λ h. h; rest = λ h. h; prints = Appends-nil a }

  pub sets_up-one : (who : Actor) (command : Command) (old new : List WorkerOf) (said : List Reply) (a b : Option (List ℕ)) → Asked opening who command old new said → Appends a b (texts said) → SetsUp opening ((who, command) ∷ []) old new a b
  sets_up-one who command old new said a b asked printed = record {
    said = said;
    pieces = (board_of new, said, [], asked-piece opening who command old new said asked, (refl, λ other. refl), sym (append-nil said));
    more = (asked-more opening who command old new said asked).0;
    jobs = (asked-more opening who command old new said asked).1;
    apart = asked-apart opening who command old new said asked;
    rest = asked-rest opening who command old new said asked;
    prints = printed;
  }

  pub sets_up-append : (ps qs : List Line) (old mid new : List WorkerOf) (a b c : Option (List ℕ)) → SetsUp opening ps old mid a b → SetsUp opening qs mid new b c → SetsUp opening (ps ++ qs) old new a c
  sets_up-append ps qs old mid new a b c first second =
      let both = pieces-append opening (pieces_of ps) (pieces_of qs) (board_of old) (board_of mid) (board_of new) first.said second.said first.pieces second.pieces in
      record {
        said = first.said ++ second.said;
        pieces = subst (λ (js : List Job). Pieces opening js (board_of old) (first.said ++ second.said) (board_of new)) (sym (map-append (λ (p : Line). (p.0, p.1 ∷ [])) ps qs)) both;
        more = first.more ++ second.more;
        jobs = second.jobs ∙ ap (λ (js : List Job). js ++ second.more) first.jobs ∙ append_assoc (jobs_of old) first.more second.more;
        apart = λ h. second.apart (first.apart h);
        rest = λ h. second.rest (first.rest h);
        prints = subst (Appends a c) (sym (texts-append first.said second.said)) (Appends-trans a b c (texts first.said) (texts second.said) first.prints second.prints);
      }

-- ---- what the workers answered

answers-append : (ws vs : List WorkerOf) (xs ys : List Reply) → AnswersAre ws xs → AnswersAre vs ys → AnswersAre (ws ++ vs) (xs ++ ys)
answers-append [] vs xs ys none later = subst (AnswersAre vs) (sym (ap (λ (rs : List Reply). rs ++ ys) none)) later
answers-append (w ∷ ws) vs xs ys (here, more, is, are, e) later = (here, more ++ ys, is, answers-append ws vs more ys are later, ap (λ (rs : List Reply). rs ++ ys) e ∙ append_assoc here more ys)

pub says-nil : (a : Option (List ℕ)) → SaysRows [] a a
says-nil a = record { answers = []; are = refl; prints = Appends-nil a }

pub says-one : (w : WorkerOf) (answers : List Reply) (a b : Option (List ℕ)) → w.answers ≡ Ok answers → Appends a b (texts answers) → SaysRows (w ∷ []) a b
says-one w answers a b is printed = record { answers = answers; are = (answers, [], is, refl, sym (append-nil answers)); prints = printed }

pub says-append : (ws vs : List WorkerOf) (a b c : Option (List ℕ)) → SaysRows ws a b → SaysRows vs b c → SaysRows (ws ++ vs) a c
says-append ws vs a b c first second = record {
  answers = first.answers ++ second.answers;
  are = answers-append ws vs first.answers second.answers first.are second.are;
  prints = subst (Appends a c) (sym (texts-append first.answers second.answers)) (Appends-trans a b c (texts first.answers) (texts second.answers) first.prints second.prints);
}

-- ---- all of it

abbrev exchanged : List PassOf → List (List Exchange)
exchanged passes = map (λ (pass : PassOf). pass.exchanges) passes

same_cons : {A : Type 0} (x y : A) (xs ys : List A) → x ≡ y → xs ≡ ys → x ∷ xs ≡ y ∷ ys
same_cons {A = A} x y xs ys e f = ap (λ (z : A). z ∷ xs) e ∙ ap (λ (zs : List A). y ∷ zs) f

map_over : (u : WorkerOf) (board : Board) (ws : List WorkerOf) → NotAmong (number_of u.actor) (numbers_of (jobs_of ws)) → map (over u board) (map (λ (w : WorkerOf). w.actor) ws) ≡ map board (map (λ (w : WorkerOf). w.actor) ws)
map_over u board [] h = refl
map_over u board (w ∷ ws) h = same_cons _ _ _ _ (other_kept u board w.actor h.0) (map_over u board ws h.1)

-- what was exchanged with each pass is what the board shows of its actor
kept_board : (us : List WorkerOf) → IsApart (numbers_of (jobs_of us)) → exchanged (passes_in us) ≡ map (board_of us) (map (λ (w : WorkerOf). w.actor) us)
kept_board [] h = refl
kept_board (u ∷ us) h = same_cons _ _ _ _ (sym (own_kept u (board_of us) u.actor refl)) (kept_board us h.1 ∙ sym (map_over u (board_of us) us h.0))

has_worker : (us : List WorkerOf) (who : Actor) → board_of us who ≢ [] → Contains (map (λ (w : WorkerOf). w.actor) us) who
has_worker [] who h = absurd (h refl)
has_worker (u ∷ us) who h = by_test (is_at who u) refl (has_worker us who) h
  where
    by_test : (b : Bool) → is_at who u ≡ b → (board_of us who ≢ [] → Contains (map (λ (w : WorkerOf). w.actor) us) who) → (if b then u.pass.exchanges else board_of us who) ≢ [] → Contains (u.actor ∷ map (λ (w : WorkerOf). w.actor) us) who
    by_test true e ih some = (0, omega arith, at_own who u e)
    by_test false e ih some = let there = ih some in (suc there.0, omega (arith, there.1), there.2)

among-front : (m : ℕ) (ks ns : List ℕ) → NotAmong m (ks ++ ns) → NotAmong m ks
among-front m [] ns h = tt
among-front m (k ∷ ks) ns h = (h.0, among-front m ks ns h.1)

apart-front : (ms ns : List ℕ) → IsApart (ms ++ ns) → IsApart ms
apart-front [] ns h = tt
apart-front (m ∷ ms) ns h = (among-front m ms ns h.0, apart-front ms ns h.1)

jobs-worked : (opening : Opening) (ws vs : List WorkerOf) → EachWorked opening ws vs → jobs_of vs ≡ jobs_of ws
jobs-worked opening [] [] h = refl
jobs-worked opening [] (v ∷ vs) h = ap (λ (us : List WorkerOf). jobs_of us) h
jobs-worked opening (w ∷ ws) [] h = absurd h
jobs-worked opening (w ∷ ws) (v ∷ vs) (did, rest) =
    same_cons (v.actor, v.commands) (w.actor, w.commands) _ _ (ap (λ (a : Actor). (a, v.commands)) did.actor ∙ ap (λ (cs : List Command). (w.actor, cs)) did.commands) (jobs-worked opening ws vs rest)

-- those who were there are there still, behind lines that were set up
length-workers : (ws : List WorkerOf) → length (jobs_of ws) ≡ length ws
length-workers [] = refl
length-workers (w ∷ ws) = ap suc (length-workers ws)

pub set_up-more : (opening : Opening) (setup : List Line) (old new : List WorkerOf) (a b : Option (List ℕ)) (count : ℕ) → SetsUp opening setup old new a b → count ≡ length old → count ≤ length new
set_up-more opening setup old new a b count sets is =
    omega (arith, ap length sets.jobs, length-append (jobs_of old) sets.more, length-workers old, length-workers new, is)

-- what is behind a run, but for its trace
module _ (opening : Opening) (setup : List Line) (rows : List Job) (hired ready workers others worked : List WorkerOf) (a b c : Option (List ℕ)) (all : HiredAll rows hired) (sets : SetsUp opening setup hired ready a b)
    (front : workers ≡ take (length hired) ready) (back : others ≡ drop (length hired) ready) (did : HaveWorked opening workers worked) (len : length worked ≡ length workers) (says : SaysRows worked b c) where
  each : EachWorked opening workers worked
  each = each_worked opening workers worked len did

  whole : workers ++ others ≡ ready
  whole = ap (λ (ws : List WorkerOf). ws ++ others) front ∙ ap (λ (ws : List WorkerOf). take (length hired) ready ++ ws) back ∙ take-append-drop (length hired) ready

  length-jobs : (ws : List WorkerOf) → length (jobs_of ws) ≡ length ws
  length-jobs [] = refl
  length-jobs (w ∷ ws) = ap suc (length-jobs ws)

  jobs : jobs_of workers ≡ rows
  jobs =
      let many : length hired ≡ length rows = sym (length-jobs hired) ∙ ap length all.jobs in
      let shown : jobs_of ready ≡ rows ++ sets.more = sets.jobs ∙ ap (λ (js : List Job). js ++ sets.more) all.jobs in
      let within : length rows ≤ length rows = omega arith in
      ap (λ (ws : List WorkerOf). jobs_of ws) front
      ∙ sym (take-map (λ (w : WorkerOf). (w.actor, w.commands)) (length hired) ready)
      ∙ ap (λ (n : ℕ). take n (jobs_of ready)) many
      ∙ ap (λ (js : List Job). take (length rows) js) shown
      ∙ take-append-le (length rows) rows sets.more within
      ∙ take-length rows

  numbers-append : (ws us : List WorkerOf) → numbers_of (jobs_of (ws ++ us)) ≡ numbers_of (jobs_of ws) ++ numbers_of (jobs_of us)
  numbers-append [] us = refl
  numbers-append (w ∷ ws) us = ap (λ (ns : List ℕ). number_of w.actor ∷ ns) (numbers-append ws us)

  apart-all : IsApart (numbers_of (jobs_of (workers ++ others)))
  apart-all = subst (λ (ws : List WorkerOf). IsApart (numbers_of (jobs_of ws))) (sym whole) (sets.apart all.apart)

  apart-workers : IsApart (numbers_of (jobs_of workers))
  apart-workers = apart-front (numbers_of (jobs_of workers)) (numbers_of (jobs_of others)) (subst IsApart (numbers-append workers others) apart-all)

  apart-after : IsApart (numbers_of (jobs_of (worked ++ others)))
  apart-after =
      let same : numbers_of (jobs_of (workers ++ others)) ≡ numbers_of (jobs_of (worked ++ others)) =
      numbers-append workers others ∙ ap (λ (js : List Job). numbers_of js ++ numbers_of (jobs_of others)) (sym (jobs-worked opening workers worked each)) ∙ sym (numbers-append worked others) in
      subst IsApart same apart-all

  works : Pieces opening rows (board_of ready) says.answers (board_of (worked ++ others))
  works =
      let pieces = work_pieces opening workers worked (board_of others) says.answers each says.are apart-workers in
      let from : boards workers (board_of others) ≡ board_of ready = sym (board_of-append workers others) ∙ ap (λ (ws : List WorkerOf). board_of ws) whole in
      let to : boards worked (board_of others) ≡ board_of (worked ++ others) = sym (board_of-append worked others) in
      subst (λ (js : List Job). Pieces opening js (board_of ready) says.answers (board_of (worked ++ others))) jobs
      (subst (λ (board : Board). Pieces opening (jobs_of workers) board says.answers (board_of (worked ++ others))) from
      (subst (λ (board : Board). Pieces opening (jobs_of workers) (boards workers (board_of others)) says.answers board) to pieces))

  pub ran : (fresh daemon : PassOf) (passes : List PassOf) → fresh.exchanges ≡ [] → Repeated opening actor.Daemon command.Daemon fresh.exchanges daemon.exchanges → passes ≡ passes_in worked ++ passes_in others ++ daemon ∷ [] → Ran opening setup rows passes a c
  ran fresh daemon passes new repeated are =
      let us : List WorkerOf = worked ++ others in
      let in_all : passes ≡ passes_in us ++ daemon ∷ [] = are ∙ ap (λ (ps : List PassOf). ps ++ daemon ∷ []) (sym (map-append (λ (w : WorkerOf). w.pass) worked others)) in
      record {
        set_up = sets.said;
        board = board_of ready;
        sets_up = pieces_from opening (pieces_of setup) (board_of hired) no_pass (board_of ready) sets.said all.fresh sets.pieces;
        answers = says.answers;
        last = board_of us;
        works = works;
        daemon = daemon.exchanges;
        balances = subst (λ (es : List Exchange). Repeated opening actor.Daemon command.Daemon es daemon.exchanges) new repeated;
        actors = map (λ (w : WorkerOf). w.actor) us;
        exchanges = ap exchanged in_all ∙ map-append (λ (pass : PassOf). pass.exchanges) (passes_in us) (daemon ∷ []) ∙ ap (λ (all : List (List Exchange)). all ++ daemon.exchanges ∷ []) (kept_board us apart-after);
        all = has_worker us;
        prints = Appends-trans a b c (texts sets.said) (texts says.answers) sets.prints says.prints;
      }

  -- and its passes, as many as were given out
  pub handed_in : (fresh daemon : PassOf) (passes : List PassOf) (r0 r1 r2 r3 : ℕ) → fresh.kept ≡ [] → (has_share fresh.kept ≡ false → has_share daemon.kept ≡ false) → passes ≡ passes_in worked ++ passes_in others ++ daemon ∷ []
      → r0 ≡ 0 → Counts r0 [] r1 hired → r2 ≡ r1 + 1 → Counts r2 hired r3 ready → AreHandedIn r3 passes
  handed_in fresh daemon passes r0 r1 r2 r3 new on are none one two three =
      let rest : AreAtRest (passes_in workers ++ passes_in others) = subst AreAtRest (ap passes_in (sym whole) ∙ passes-append workers others) (sets.rest all.rest) in
      let parts = rest-parts (passes_in workers) (passes_in others) rest in
      let last : AreAtRest (daemon ∷ []) = (on (rest-fresh fresh.kept new), tt) in
      record {
        many =
            omega (arith, none, one, two, three, len, ap length whole, length-append workers others, ap length are, length-append (passes_in worked ++ passes_in others) (daemon ∷ []), length-append (passes_in worked) (passes_in others), length-passes worked, length-passes others);
        rest = subst AreAtRest (sym are) (rest-append (passes_in worked ++ passes_in others) (daemon ∷ []) (rest-append (passes_in worked) (passes_in others) (worked-rest opening workers worked each parts.0) parts.1) last);
      }
