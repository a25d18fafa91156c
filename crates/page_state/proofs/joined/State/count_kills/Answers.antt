use Rattle.std.proofs.Common.{◌≡◌, ◌≤◌, length, ap, ◌∙◌, sym, refl, subst, arith}
use Rattle.page_state.specs.States.{StateOf}
use Rattle.page_state.proofs.KillLemmas.{counts-more}
use Rattle.page_state.proofs.joined.State.count_kills.Goals as goal

pub loop-number-preserved : goal.loop-number-preserved
loop-number-preserved c = counts-more c.args.self.now c.loop-number.self c.count_kill-tasks.new.self c.args.group.0 c.loop-number.number c.loop-number.tasks c.count_kill-tasks.result c.loop-number.invariant c.count_kill-tasks.ensures.task c.count_kill-tasks.ensures.counts c.count_kill-tasks.ensures.most
