use Rattle.std.proofs.Common.{ap, ◌∙◌}
use Rattle.scenario_reports.proofs.TaskLemmas.{is_known_gone, gone_by_number}
use Rattle.scenario_reports.proofs.tasks.Tasks.is_gone.Goals as goal

pub returns-in-None : goal.returns-in-None
returns-in-None c = rw (← c.self.view_is) (ap is_known_gone c.in-None.ensures.value ∙ gone_by_number c.args.task c.self.inside.known.entries)

pub returns-in-Some : goal.returns-in-Some
returns-in-Some c = rw (← c.self.view_is) (c.is_gone.ensures ∙ ap is_known_gone c.in-Some.ensures.value ∙ gone_by_number c.args.task c.self.inside.known.entries)
