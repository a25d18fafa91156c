use Rattle.std.proofs.Common.{[], arith}
use Rattle.std.proofs.lemmas.Result.{err_from_is_err_and}
use Rattle.scenario_lines.specs.declared.burst.Burst.{Burst}
use Rattle.scenario_lines.proofs.SceneLemmas.{same_fault}
use Rattle.scenario_lines.proofs.LineLemmas.{none_before, act_more, act_faulty, acts_ended}
use Rattle.scenario_lines.proofs.lines.acts_of.Goals as goal

pub loop-task-init : goal.loop-task-init
loop-task-init c = none_before c.new-bursts.result.items _ c.new-bursts.ensures.items

pub loop-task-preserved : goal.loop-task-preserved
loop-task-preserved c =
    act_more c.loop-task.scene c.act_of.new.scene c.args.words.now c.args.tasks.now c.loop-task.task-index c.in_ok-act_of.field-0 c.loop-task.bursts.items c.push.new.self.items _ (omega arith) c.in_ok-act_of.ensures c.in_ok-push.ensures.items c.loop-task.invariant

pub returns-in_err-act_of : goal.returns-in_err-act_of
returns-in_err-act_of c =
    let p = err_from_is_err_and c.from_residual.result c.from_residual.ensures.1 in
    rw (p.1, p.2) (same_fault {T = Burst} {V = Unit {0}} (λ burst. (burst, c.act_of.new.scene)) (λ _. ([], c.args.scene.now)) c.in_err-act_of.field-0.0 _ _ (λ f e. act_faulty c.loop-task.scene c.args.words.now c.args.tasks.now c.loop-task.task-index c.loop-task.bursts.items f _ (omega arith) c.loop-task.invariant e) c.in_err-act_of.ensures)

pub returns : goal.returns
returns c = acts_ended c.loop-task.scene c.args.words.now c.args.tasks.now c.loop-task.task-index c.loop-task.bursts.items _ (omega arith) c.loop-task.invariant
