use Rattle.machine.specs.State.{opening_of}
use Rattle.thread_runs.proofs.threads.run_new.Given as goal

abbrev pub ghosts-show_over : goal.ghosts-show_over
ghosts-show_over g a = record { opening = opening_of a.script.config; table = a.unnamed }
