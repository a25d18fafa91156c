-- The machine is the one that was opened.
use Rattle.machine.specs.State.{opening_of}
use Rattle.shortages.proofs.crew.try_work.Given as goal

abbrev pub ghosts-open : goal.ghosts-open
ghosts-open g a = record { opening = opening_of a.config; table = a.unnamed }
