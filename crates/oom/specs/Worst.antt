-- The worst task among those of smaller numbers.
use Rattle.std.specs.Prelude.{◌≡◌, ℕ, ◌<◌, true, false, List, Option, Some, None}
use Rattle.machine.specs.Tree.{Node}
use Rattle.machine.specs.Tasks.{Tasks, PageTables, size_of}
use Rattle.machine.specs.Victim.{is_candidate, is_worse}
use Rattle.oom.specs.declared.Candidate.{Candidate}

-- of the candidates below a number this one is the worst, and of this size
pub record IsWorstOf (tree : List Node) (tasks : Tasks) (tables : PageTables) (limit below worst size : ℕ) : Type 0 where
  pub within : worst < below
  pub among : is_candidate tree tasks limit worst ≡ true
  pub sized : size ≡ size_of tables worst
  pub none_worse : (t : ℕ) → t < below → is_candidate tree tasks limit t ≡ true → is_worse tables t worst ≡ false

-- there is such a one; or there is no candidate below the number
abbrev pub IsWorstBelow : List Node → Tasks → PageTables → ℕ → ℕ → Option Candidate → Type 0
IsWorstBelow tree tasks tables limit below (Some worst) = IsWorstOf tree tasks tables limit below worst.task.0 worst.size
IsWorstBelow tree tasks tables limit below None = (t : ℕ) → t < below → is_candidate tree tasks limit t ≡ false
