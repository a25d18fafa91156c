-- Workers that work at the same time.
use Rattle.std.specs.Prelude.{◌≡◌, ◌<◌, ℕ, false, List, [], ◌∷◌, Vec, length, slice_index_or, Result, Ok, Err, IfOk, IfErr}
use denote.Ref.{Bor}
use Rattle.std.specs.declared.alloc.Global.{Global}
use Rattle.machine.specs.declared.command.Actor.{Actor}
use Rattle.machine.specs.declared.command.Command.{Command}
use Rattle.machine.specs.declared.command.Reply.{Reply as Told_by}
use Rattle.machine.specs.declared.refusal.Refusal.{Refusal}
use Rattle.machine.specs.declared.refusal.Refusal.TheVariants.{NoMemory}
use Rattle.machine.specs.State.{Opening}
use Rattle.live.specs.Passes.{PassOf}
use Rattle.live.specs.Matching.{has_share}
use Rattle.live.specs.Works.{Worked}

-- a worker: whose commands it does, and with which pass
pub record WorkerOf : Type 0 where
  pub actor : Actor
  pub pass : PassOf
  -- what it is to do, in order
  pub commands : List Command
  -- what it answered; or that there was no memory for the answers
  pub answers : Result (List Told_by) Refusal

-- the worker did what it was to do, and answered so; or there was no memory for its answers, and nothing was done
pub record HasWorked (opening : Opening) (old new : WorkerOf) : Type 0 where
  pub actor : new.actor ≡ old.actor
  pub commands : new.commands ≡ old.commands
  pub caller : new.pass.caller ≡ old.pass.caller
  pub answered : IfOk new.answers (λ answers. Worked opening old.actor old.commands old.pass.exchanges new.pass.exchanges answers)
  pub short : IfErr new.answers (λ cause. (cause ≡ NoMemory) × (new.pass ≡ old.pass))
  -- with no ticket out before, it has none out now. (Excludes a worker that keeps a ticket.)
  pub rest : has_share old.pass.kept ≡ false → has_share new.pass.kept ≡ false

-- the worker answered a command so, before what it is to do, and what it is to do stays
pub record HasAnswered (opening : Opening) (command : Command) (old new : WorkerOf) (said : List Told_by) : Type 0 where
  pub actor : new.actor ≡ old.actor
  pub commands : new.commands ≡ old.commands
  pub answers : new.answers ≡ old.answers
  pub caller : new.pass.caller ≡ old.pass.caller
  pub worked : Worked opening old.actor (command ∷ []) old.pass.exchanges new.pass.exchanges said
  pub rest : has_share old.pass.kept ≡ false → has_share new.pass.kept ≡ false

-- each of them did. (Excludes a worker that is left out.)
abbrev pub HaveWorked : Opening → List WorkerOf → List WorkerOf → Type 0
HaveWorked opening old new = (k : ℕ) (other : WorkerOf) → k < length old → HasWorked opening (slice_index_or old k other) (slice_index_or new k other)

abbrev pub answers_of : Result (Vec Told_by Global) Refusal → Result (List Told_by) Refusal
answers_of (Ok answers) = Ok answers.items
answers_of (Err cause) = Err cause

abbrev pub answers_in : Result (Bor (List Told_by)) Refusal → Result (List Told_by) Refusal
answers_in (Ok answers) = Ok answers.now
answers_in (Err cause) = Err cause
