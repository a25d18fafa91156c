use Rattle.scenario_lines.proofs.TaskLemmas.{numbered}
use Rattle.scenario_lines.proofs.tasks.Tasks.name_of.Goals as goal

pub returns : goal.returns
returns c =
    let p = c.in_ok-place.ensures in
    rw (← c.self.view_is) (numbered c.self.inside.started.keys c.args.task c.in_ok-place.place c.in_ok-task.task.now c.as_str.result.now p.0 p.1 c.in_ok-task.ensures.key c.as_str.ensures.value)
