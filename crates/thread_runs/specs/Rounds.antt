-- The rounds of a run on threads: words for its own functions. No public clause cites this.
use Rattle.std.specs.Prelude.{◌≡◌, ◌≢◌, ℕ, ◌==◌, false, Result, Err, List, [], ◌∷◌, ◌++◌, length, Option, Contains, map, reverse, Ok, All}
use Rattle.std.specs.Io.KnownBytes.{Appends}
use Rattle.machine.specs.declared.command.Actor.{Actor}
use Rattle.machine.specs.declared.command.Actor.TheVariants as actor
use Rattle.machine.specs.declared.command.Command.{Command}
use Rattle.machine.specs.declared.command.Command.TheVariants as command
use Rattle.machine.specs.declared.command.Reply.{Reply}
use Rattle.machine.specs.declared.entry.Entry.{Entry}
use Rattle.machine.specs.State.{Opening, State}
use Rattle.machine.specs.History.{Numbered}
use Rattle.live.specs.declared.history.Exchange.{Exchange}
use Rattle.live.specs.Passes.{PassOf}
use Rattle.live.specs.Crews.{WorkerOf}
use Rattle.live.specs.Works.{Repeated}
use Rattle.live.specs.Matching.{has_share}
use Rattle.live.specs.Reports.{IsLegal}
use Rattle.live.specs.OneRun.{IsOneRun, WereGiven}
use Rattle.trace.specs.declared.auditing.First.{First}
use Rattle.thread_runs.specs.declared.threads.Verdict.{Verdict}
use Rattle.thread_runs.specs.declared.threads.Verdict.TheVariants.{Fine, Wrong}
use Rattle.printer.specs.Prints.{texts}
use Rattle.thread_runs.specs.Threads.{Board, no_pass, pieces_of, Pieces, Concludes, verdict_line}
use Rattle.scripts.specs.Work.{numbers_of}
use Rattle.thread_runs.specs.Crews.{jobs_of, board_of}

-- the number is none of these
abbrev pub NotAmong : ℕ → List ℕ → Type 0
NotAmong n [] = Unit {0}
NotAmong n (k ∷ ks) = ((n == k) ≡ false) × NotAmong n ks

-- no two of the numbers are the same
abbrev pub IsApart : List ℕ → Type 0
IsApart [] = Unit {0}
IsApart (n ∷ ns) = NotAmong n ns × IsApart ns

abbrev pub passes_in : List WorkerOf → List PassOf
passes_in workers = map (λ (worker : WorkerOf). worker.pass) workers

-- none of the passes has a ticket out
abbrev pub AreAtRest : List PassOf → Type 0
AreAtRest [] = Unit {0}
AreAtRest (pass ∷ passes) = (has_share pass.kept ≡ false) × AreAtRest passes

-- a worker for each row, with whose pass nothing was exchanged yet
pub record HiredAll (rows : List (Actor × List Command)) (workers : List WorkerOf) : Type 0 where
  pub jobs : jobs_of workers ≡ rows
  pub fresh : (who : Actor) → board_of workers who ≡ []
  pub apart : IsApart (numbers_of (jobs_of workers))
  pub rest : AreAtRest (passes_in workers)

-- these commands were done one after the other, by workers that were there or were hired behind those, and a writer got the answers
pub record SetsUp (opening : Opening) (setup : List (Actor × Command)) (old new : List WorkerOf) (before after : Option (List ℕ)) : Type 0 where
  pub said : List Reply
  pub pieces : Pieces opening (pieces_of setup) (board_of old) said (board_of new)
  pub more : List (Actor × List Command)
  pub jobs : jobs_of new ≡ jobs_of old ++ more
  pub apart : IsApart (numbers_of (jobs_of old)) → IsApart (numbers_of (jobs_of new))
  pub rest : AreAtRest (passes_in old) → AreAtRest (passes_in new)
  pub prints : Appends before after (texts said)

-- what each of the workers answered, one behind the other
abbrev pub AnswersAre : List WorkerOf → List Reply → Type 0
AnswersAre [] answers = answers ≡ []
AnswersAre (worker ∷ workers) answers = (here : List Reply) × (later : List Reply) × (worker.answers ≡ Ok here) × AnswersAre workers later × (answers ≡ here ++ later)

-- and a writer got that
pub record SaysRows (workers : List WorkerOf) (before after : Option (List ℕ)) : Type 0 where
  pub answers : List Reply
  pub are : AnswersAre workers answers
  pub prints : Appends before after (texts answers)

-- all passes that were given out, so many, are handed in, and none has a ticket out
pub record AreHandedIn (given : ℕ) (passes : List PassOf) : Type 0 where
  pub many : length passes ≡ given
  pub rest : AreAtRest passes

-- all but the trace of a run
pub record Ran (opening : Opening) (setup : List (Actor × Command)) (work : List (Actor × List Command)) (passes : List PassOf) (before after : Option (List ℕ)) : Type 0 where
  pub set_up : List Reply
  pub board : Board
  pub sets_up : Pieces opening (pieces_of setup) no_pass set_up board
  pub answers : List Reply
  pub last : Board
  pub works : Pieces opening work board answers last
  pub daemon : List Exchange
  pub balances : Repeated opening actor.Daemon command.Daemon [] daemon
  pub actors : List Actor
  pub exchanges : map (λ (pass : PassOf). pass.exchanges) passes ≡ map last actors ++ daemon ∷ []
  pub all : (who : Actor) → last who ≢ [] → Contains actors who
  pub prints : Appends before after (texts set_up ++ texts answers)

-- the verdict, by the trace's audit
abbrev pub verdict_by : Result (Unit {0}) First → Verdict
verdict_by (Ok done) = Fine
verdict_by (Err first) = Wrong first.entry

-- the trace of a run was judged so, over these passes, and a writer got what is shown of the state that the run led to, and the line of the verdict
pub record Concluded (opening : Opening) (passes : List PassOf) (shown : State → List ℕ) (verdict : Verdict) (before after : Option (List ℕ)) : Type 0 where
  pub entries : List Entry
  pub legal : IsLegal opening (reverse entries)
  pub numbered : Numbered (reverse entries)
  pub one_run : IsOneRun opening entries passes
  pub each : All (λ (pass : PassOf). WereGiven opening (reverse entries) pass.caller.worker pass.exchanges) passes
  pub concludes : Concludes verdict entries passes
  pub prints : Appends before after (shown one_run.past.state ++ verdict_line verdict)

-- a run, all of it
pub record RanAll (opening : Opening) (setup : List (Actor × Command)) (work : List (Actor × List Command)) (shown : State → List ℕ) (verdict : Verdict) (before after : Option (List ℕ)) : Type 0 where
  pub passes : List PassOf
  pub mid : Option (List ℕ)
  pub ran : Ran opening setup work passes before mid
  pub concluded : Concluded opening passes shown verdict mid after
