use Rattle.machine.specs.State.{opening_of}
use Rattle.streams.proofs.other_bytes.run_new.Given as goal

abbrev pub ghosts-run_over : goal.ghosts-run_over
ghosts-run_over g a = record { opening = opening_of a.script.config; table = a.unnamed }
