use Rattle.std.specs.List.{before_first}
use Rattle.driver.specs.Schedule.{first_world}
use Rattle.explorer.specs.Outcome.{disk_of}
use Rattle.division.specs.Sorting.{goes}
use Rattle.division.proofs.TrialLemmas.{is-accepted}
use Rattle.division.proofs.trial.try_setup.Goals as goal

pub returns-clause-accepts : goal.returns-clause-accepts
returns-clause-accepts c =
    is-accepted c.try_lines-tried.result c.in_ok-run.run' (first_world c.args.parts.now.config (disk_of c.args.parts.now)) c.try_lines-tried.new.run c.divided.result.0.now (before_first goes c.args.lines.now) c.in_ok-run.ensures.opens c.divided.ensures.before c.try_lines-tried.ensures.accepts
