-- The workers of a run on threads, each actor's once. No public clause cites this.
use Rattle.std.specs.Prelude.{◌≡◌, ◌⊎◌, ℕ, ◌+◌, ◌<◌, ◌==◌, suc, Bool, List, [], ◌∷◌, ◌++◌, length, map, slice_index_or, slice_set, if◌then◌else◌, Ok}
use Rattle.machine.specs.declared.command.Actor.{Actor}
use Rattle.machine.specs.declared.command.Command.{Command}
use Rattle.machine.specs.declared.command.Reply.{Reply}
use Rattle.machine.specs.State.{Opening}
use Rattle.live.specs.declared.history.Exchange.{Exchange}
use Rattle.live.specs.Passes.{PassOf}
use Rattle.live.specs.Crews.{WorkerOf, HasAnswered}
use Rattle.scripts.specs.Work.{number_of}

abbrev pub is_at : Actor → WorkerOf → Bool
is_at who worker = number_of worker.actor == number_of who

-- the numbers of their actors, one after another
abbrev pub numbers_at : List WorkerOf → List ℕ
numbers_at workers = map (λ (worker : WorkerOf). number_of worker.actor) workers

-- the place of an actor's worker, or how many there are
abbrev pub place_of : Actor → List WorkerOf → ℕ
place_of who [] = 0
place_of who (worker ∷ workers) = if is_at who worker then 0 else suc (place_of who workers)

-- what was exchanged with the actor's pass; nothing if it has none
abbrev pub board_of : List WorkerOf → Actor → List Exchange
board_of [] who = []
board_of (worker ∷ workers) who = if is_at who worker then worker.pass.exchanges else board_of workers who

-- who is to do what
abbrev pub jobs_of : List WorkerOf → List (Actor × List Command)
jobs_of workers = map (λ (worker : WorkerOf). (worker.actor, worker.commands)) workers

-- a worker more, of an actor who had none, with a pass with which nothing was exchanged yet
pub record Hires (who : Actor) (commands : List Command) (old new : List WorkerOf) : Type 0 where
  pub pass : PassOf
  pub fresh : pass.exchanges ≡ []
  pub unused : pass.kept ≡ []
  pub none : place_of who old ≡ length old
  pub hired : new ≡ old ++ record { actor = who; pass = pass; commands = commands; answers = Ok [] } ∷ []

-- the actor's worker, who was hired where there was none, answered a command so
pub record Asked (opening : Opening) (who : Actor) (command : Command) (old new : List WorkerOf) (said : List Reply) : Type 0 where
  pub mid : List WorkerOf
  pub there : (mid ≡ old) ⊎ Hires who [] old mid
  pub within : place_of who mid < length mid
  pub worker : WorkerOf
  pub answered : HasAnswered opening command (slice_index_or mid (place_of who mid) worker) worker said
  pub changed : new ≡ slice_set mid (place_of who mid) worker

-- as many more passes were given out as there are more workers
abbrev pub Counts : ℕ → List WorkerOf → ℕ → List WorkerOf → Type 0
Counts given old given' new = given' + length old ≡ given + length new
