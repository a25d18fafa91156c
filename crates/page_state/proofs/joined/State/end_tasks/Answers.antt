use Rattle.std.proofs.Common.{◌≡◌, ◌≤◌, length, ap, ◌∙◌, sym, refl, subst, arith}
use Rattle.page_state.specs.States.{StateOf}
use Rattle.page_state.proofs.KillLemmas.{ends-none, ends-more, ends-all}
use Rattle.page_state.proofs.joined.State.end_tasks.Goals as goal

pub loop-number-init : goal.loop-number-init
loop-number-init c = ends-none c.args.self.now c.args.life c.args.group.0 c.is_joined.ensures.mapped c.is_joined.ensures.listed

pub loop-number-preserved : goal.loop-number-preserved
loop-number-preserved c = ends-more c.args.self.now c.loop-number.self c.end_task_under.new.self c.args.life c.args.group.0 c.loop-number.number c.is_joined.ensures.generations c.loop-number.invariant c.end_task_under.ensures

pub returns : goal.returns
returns c = ends-all c.args.self.now c.loop-number.self c.args.life c.args.group.0 c.loop-number.number (let many = c.slots-number-end.ensures.slots in let over = c.loop-number-test.false in let same = ap (λ (s : StateOf). length s.tables.tasks) c.self.view_is in omega (arith, many, over, same)) c.loop-number.invariant
