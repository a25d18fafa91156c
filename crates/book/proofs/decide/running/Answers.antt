use Rattle.std.proofs.Common.{◌∙◌, Some, sym, ap}
use Rattle.machine.specs.declared.record.Life.{Life}
use Rattle.machine.specs.Tasks.{Tasks, task_at}
use Rattle.book.proofs.decide.running.Goals as goal

pub returns-in-Killed-clause-runs : goal.returns-in-Killed-clause-runs
returns-in-Killed-clause-runs c = (
  c.in-Some.known.group,
  sym (c.task.ensures ∙ ap (λ (ts : Tasks). task_at ts c.args.task.0) c.spaces.ensures.tasks) ∙ c.in-Some.is ∙ ap (λ (life : Life). Some (record { group = c.in-Some.known.group; life = life })) c.in-Killed.is,
)
