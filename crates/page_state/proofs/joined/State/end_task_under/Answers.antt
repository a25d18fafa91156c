use Rattle.std.proofs.Common.{◌≡◌, ◌==◌, ◌&&◌, false, ap, ◌∙◌, sym, subst}
use Rattle.std.proofs.lemmas.Bool.{and_right}
use Rattle.machine.specs.Victim.{is_candidate}
use Rattle.page_state.specs.States.{StateOf}
use Rattle.page_state.proofs.KillLemmas.{ends-nobody}
use Rattle.page_state.proofs.joined.State.end_task_under.Goals as goal

pub returns-else-is_candidate : goal.returns-else-is_candidate
returns-else-is_candidate c =
    let no : is_candidate c.args.self.now.tables.tree c.args.self.now.tables.tasks c.args.group.0 c.args.task.0 ≡ false =
    subst (λ (s : StateOf). is_candidate s.tables.tree s.tables.tasks c.args.group.0 c.args.task.0 ≡ false) c.self.view_is (sym c.is_candidate.ensures ∙ c.if-is_candidate.false) in
    ends-nobody c.args.self.now c.args.life _ (λ u. and_right (u == c.args.task.0) _ no) c.is_joined.ensures.mapped c.is_joined.ensures.listed
