use Rattle.std.proofs.Common.{◌+◌, [], arith}
use Rattle.std.proofs.lemmas.Result.{err_from_is_err_and}
use Rattle.scenario_lines.specs.declared.burst.Burst.{Burst}
use Rattle.scenario_lines.proofs.SceneLemmas.{same_fault}
use Rattle.scenario_lines.proofs.LineLemmas.{none_before, start_more, start_faulty, starts_ended}
use Rattle.scenario_lines.proofs.lines.start_between.Goals as goal
use Rattle.scenario_lines.proofs.lines.start_between.Goals.{else-loop-number-test, then-loop-number-test+in_ok-start+in_ok-push+else-number-last}

pub loop-number-init : goal.loop-number-init
loop-number-init c = none_before c.new-bursts.result.items _ c.new-bursts.ensures.items

pub loop-number-preserved : goal.loop-number-preserved
loop-number-preserved c =
    start_more c.loop-number.scene c.start.new.scene c.args.word.now c.args.name.now c.args.path.now c.loop-number.number c.args.last c.in_ok-start.field-0 c.loop-number.bursts.items c.push.new.self.items _ (omega arith) c.in_ok-start.ensures c.in_ok-push.ensures.items c.loop-number.invariant

pub returns-in_err-start : goal.returns-in_err-start
returns-in_err-start c =
    let p = err_from_is_err_and c.from_residual.result c.from_residual.ensures.1 in
    rw (p.1, p.2) (same_fault {T = Burst} {V = Unit {0}} (λ burst. (burst, c.start.new.scene)) (λ _. ([], c.args.scene.now)) c.in_err-start.field-0.0 _ _ (λ f e. start_faulty c.loop-number.scene c.args.word.now c.args.name.now c.args.path.now c.loop-number.number c.args.last c.loop-number.bursts.items f _ (omega arith) c.loop-number.invariant e) c.in_err-start.ensures)

pub returns : goal.returns
returns c =
    let w = c.args.word.now in
    let name = c.args.name.now in
    let path = c.args.path.now in
    let n = c.loop-number.number in
    let last = c.args.last in
    elim c.loop-number-test.branch [
      | else-loop-number-test at ↦ rw (at.bursts-is, at.scene-is) (starts_ended c.loop-number.scene w name path n last c.loop-number.bursts.items _ (omega arith) c.loop-number.invariant)
      | then-loop-number-test+in_ok-start+in_ok-push+else-number-last at ↦ rw (at.bursts-is, at.scene-is) (starts_ended at.start.new.scene w name path (n + 1) last at.push.new.self.items _ (omega arith)
          (start_more c.loop-number.scene at.start.new.scene w name path n last at.in_ok-start.field-0 c.loop-number.bursts.items at.push.new.self.items _ (omega arith) at.in_ok-start.ensures at.in_ok-push.ensures.items c.loop-number.invariant))
    ]
