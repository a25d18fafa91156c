use Rattle.std.proofs.Common.{sym, ◌∙◌, refl}
use Rattle.std.specs.String.{string_bytes}
use Rattle.scenario_lines.specs.Tasks.{is_task}
use Rattle.scenario_lines.proofs.TaskLemmas.{position_seen, none_passes, absent}
use Rattle.scenario_lines.proofs.tasks.add.Goals as goal

pub returns-clause-added : goal.returns-clause-added
returns-clause-added c =
    let seen = position_seen (is_task (string_bytes c.args.task.name) c.args.task.index) _ (λ k. refl) c.args.started.now.keys in
    let none = none_passes _ c.args.started.now.keys (sym seen ∙ absent _ c.requires) in
    c.in_ok-insert.ensures.keys ∙ rw none refl
