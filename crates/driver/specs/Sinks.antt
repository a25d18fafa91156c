-- What a sink has of a run, and what a run that was cut short had done.
use Rattle.std.specs.Prelude.{◌≡◌, ◌⊎◌, ℕ, ◌+◌, ◌≤◌, List, [], ◌∷◌, ◌++◌, length}
use Rattle.std.specs.List.{AllByRecursion}
use Rattle.machine.specs.declared.config.Config.{Config}
use Rattle.machine.specs.declared.command.Step.{Step}
use Rattle.machine.specs.declared.command.Step.TheVariants.{Begin, Advance, Finish}
use Rattle.machine.specs.declared.command.Reply.{Reply as Told_by}
use Rattle.machine.specs.declared.refusal.Refusal.TheVariants.{NoMemory}
use Rattle.machine.specs.History.{at_first, Honest, Right}
use Rattle.block_store.specs.Device.{Disk}
use Rattle.driver.specs.declared.sink.Stop.{Stop}
use Rattle.driver.specs.declared.sink.Stop.TheVariants.{Refused, Closed}
use Rattle.machine.specs.Call.{Past}
use Rattle.driver.specs.Schedule.{World, first_world, Runs, RunsThrough, Schedules, errors}

-- the sink took these answers, and may have begun to take those behind them, which are one at most (`few` below)
pub record Heard {S : Type 0} (took failed : S → S → List Told_by → Type 0) (old new : S) (answers begun : List Told_by) : Type 0 where
  pub mid : S
  pub takes : took old mid answers
  pub fails : failed mid new begun

-- ---- a run that went through

-- the sink took the answers of the plain machine to the steps, which are at most as many EIO as calls of the device failed meanwhile; and it was
-- shown the book behind each step, as it stood there. Of the book that it is lent before a relief nothing is said.
-- (Excludes an answer that is left out, told twice, or told before its turn; and a look behind a step at what stood elsewhere.)
pub record Gives {S : Type 0} (took : S → S → List Told_by → Type 0) (saw : S → S → List Past → Type 0) (config : Config) (before : Disk) (steps : List Step) (old new : S) (after : Disk) : Type 0 where
  pub answers : List Told_by
  pub takes : took old new answers
  pub schedules : Schedules config before steps answers after
  pub failures : errors answers + before.failures ≤ after.failures
  pub pasts : List Past
  pub sees : saw old new pasts
  pub shown : RunsThrough (first_world config before) steps answers pasts schedules.end

-- ---- a run that was cut short

-- why it was, where it had begun: memory was wanted, or the sink took no more. (Excludes a run that had begun and is called Invalid.)
abbrev pub IsCut : Stop → Type 0
IsCut (Refused why) = why ≡ NoMemory
IsCut Closed = Unit {0}

-- what was carried out of the step that was under way: nothing, or all of it, though not all of its answers were taken; or, of a finish, single turns. (Excludes half a turn.)
abbrev pub AreTurnsOf : ℕ → Step → List Step → Type 0
AreTurnsOf most (Begin who what) turns = ⊥
AreTurnsOf most (Advance who) turns = ⊥
AreTurnsOf most (Finish who) turns = (length turns ≤ most) × AllByRecursion (λ (s : Step). s ≡ Advance who) turns

abbrev pub ArePartOf : ℕ → Step → List Step → Type 0
ArePartOf most step part = (part ≡ []) ⊎ ((part ≡ step ∷ []) ⊎ AreTurnsOf most step part)

abbrev pub BeginsWith : ℕ → List Step → List Step → Type 0
BeginsWith most [] part = part ≡ []
BeginsWith most (step ∷ later) part = ArePartOf most step part

-- these answers are those of the plain machine to the first of the steps, and to what was carried out of the step behind them before the run was cut short;
-- and the device is left as it is behind them. (Excludes a run that goes on to use the device behind an answer that is not taken, where that leaves a trace on it:
-- each call does on a device that counts its calls, as the one in memory does. So it excludes one that keeps its answers to its end.)
pub record Starts (config : Config) (before : Disk) (steps : List Step) (answers : List Told_by) (after : Disk) : Type 0 where
  pub done : List Step
  pub left : List Step
  pub cut : steps ≡ done ++ left
  pub part : List Step
  pub begins : BeginsWith config.turns left part
  pub schedules : Schedules config before (done ++ part) answers after

-- the sink took some answers, and these, with the one that it may have begun to take, are such. (Excludes a run that is cut short and had told what no
-- run tells.)
pub record GivesStart {S : Type 0} (took failed : S → S → List Told_by → Type 0) (config : Config) (before : Disk) (steps : List Step) (old new : S) (after : Disk) : Type 0 where
  pub answers : List Told_by
  pub begun : List Told_by
  pub few : length begun ≤ 1
  pub heard : Heard took failed old new answers begun
  pub starts : Starts config before steps (answers ++ begun) after

-- ---- the same of a desk

-- each read gave what was last written, where each page that was read in brought that
abbrev pub IsRightOnce : World → Type 0
IsRightOnce w = (files : ℕ → ℕ → ℕ → ℕ) → Honest (at_first files) w.past.history → Right (at_first files) w.past.history

pub record StartsRun (old : World) (steps : List Step) (answers : List Told_by) (after : Disk) : Type 0 where
  pub done : List Step
  pub left : List Step
  pub cut : steps ≡ done ++ left
  pub part : List Step
  pub begins : BeginsWith old.turns left part
  pub end : World
  pub runs : Runs old (done ++ part) answers end
  pub device : end.disk ≡ after
  pub right : IsRightOnce end

-- of the one step that is under way
pub record StartsStep (old : World) (step : Step) (answers : List Told_by) (after : Disk) : Type 0 where
  pub part : List Step
  pub is_part : ArePartOf old.turns step part
  pub end : World
  pub runs : Runs old part answers end
  pub device : end.disk ≡ after
  pub right : IsRightOnce end

-- the sink took some answers, and these, with the one that it may have begun to take, are of the beginning of the steps, or of one step
pub record CutsRun {S : Type 0} (took failed : S → S → List Told_by → Type 0) (old new : S) (before : World) (steps : List Step) (after : Disk) : Type 0 where
  pub answers : List Told_by
  pub begun : List Told_by
  pub few : length begun ≤ 1
  pub heard : Heard took failed old new answers begun
  pub starts : StartsRun before steps (answers ++ begun) after

pub record CutsStep {S : Type 0} (took failed : S → S → List Told_by → Type 0) (old new : S) (before : World) (step : Step) (after : Disk) : Type 0 where
  pub answers : List Told_by
  pub begun : List Told_by
  pub few : length begun ≤ 1
  pub heard : Heard took failed old new answers begun
  pub starts : StartsStep before step (answers ++ begun) after
