use Rattle.std.proofs.lemmas.Result.{err_from_is_err_and}
use Rattle.scenario_words.specs.TaskNames.{names_text, only_one, task_names_in, task_name_in}
use Rattle.scenario_words.proofs.GiveLemmas.{handed_on}
use Rattle.scenario_words.proofs.task_names.task_name.Goals as goal

pub returns-in_err-names : goal.returns-in_err-names
unfolding task_name_in
returns-in_err-names c =
    let p = err_from_is_err_and c.from_residual.result c.from_residual.ensures.1 in
    rw (p.1, p.2) (handed_on names_text names_text c.in_err-names.field-0.0 (task_names_in c.args.word.now) (λ names. only_one c.args.word.now names names.index) c.in_err-names.ensures)
