-- The run is of the machine that was opened.
use Rattle.machine.specs.State.{opening_of}
use Rattle.callers.proofs.crowd.crowd.Given as goal

abbrev pub ghosts-run_over : goal.ghosts-run_over
ghosts-run_over g a = record { opening = opening_of a.config; table = a.unnamed }
