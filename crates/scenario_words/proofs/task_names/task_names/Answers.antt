use Rattle.std.proofs.Common.{◌≡◌, sym, ap, ◌∙◌, Err}
use Rattle.std.proofs.lemmas.Result.{err_from_is_err_and}
use Rattle.std.specs.String.{string_bytes}
use Rattle.scenario_words.specs.TaskNames.{names_by, if_name, indexed, task_names_in}
use Rattle.scenario_words.proofs.BracketLemmas.{unread}
use Rattle.scenario_words.proofs.task_names.task_names.Goals as goal

pub returns-in_err-brackets : goal.returns-in_err-brackets
returns-in_err-brackets c =
    let p = err_from_is_err_and c.from_residual.result c.from_residual.ensures.1 in
    rw (p.1, p.2) (unread c.args.word.now c.in_err-brackets.field-0.0 c.in_err-brackets.ensures)

pub returns-in-None : goal.returns-in-None
unfolding task_names_in
returns-in-None c =
    let w = c.args.word.now in
    rw c.fault.ensures (sym (ap (names_by w) c.in_ok-brackets.ensures) ∙ c.index_in.ensures w ∙ ap (indexed w (string_bytes c.in_ok-brackets.brackets.name)) c.in-None.is)

pub returns-in-Some : goal.returns-in-Some
unfolding task_names_in
returns-in-Some c =
    let w = c.args.word.now in
    let name = string_bytes c.in_ok-brackets.brackets.name in
    let e : task_names_in w ≡ if_name w name c.in-Some.index = sym (ap (names_by w) c.in_ok-brackets.ensures) ∙ c.index_in.ensures w ∙ ap (indexed w name) c.in-Some.is in
    rw e c.named.ensures
