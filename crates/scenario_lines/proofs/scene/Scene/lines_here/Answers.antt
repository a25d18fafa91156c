use Rattle.std.proofs.Common.{[], length, arith}
use Rattle.std.proofs.lemmas.Result.{err_from_is_err_and}
use Rattle.scenario_lines.proofs.SceneLemmas.{same_fault}
use Rattle.scenario_lines.proofs.OpeningLemmas.{none_counted, line_more, line_stops, line_faulty, lines_ended}
use Rattle.scenario_lines.proofs.scene.Scene.lines_here.Goals as goal

pub loop-count-init : goal.loop-count-init
loop-count-init c = none_counted _

pub loop-count-preserved : goal.loop-count-preserved
loop-count-preserved c =
    line_more c.loop-count.self c.line_here.new.self c.loop-count.lines.items c.line_here.new.lines.items c.args.all.now c.loop-count.count c.index-all-count.result c.in_ok-line_here.field-0 _ (omega arith) c.index-all-count.is c.if-not-branch.false c.in_ok-line_here.ensures c.loop-count.invariant

pub returns-then-not-branch : goal.returns-then-not-branch
returns-then-not-branch c =
    line_stops c.loop-count.self c.line_here.new.self c.loop-count.lines.items c.line_here.new.lines.items c.args.all.now c.loop-count.count c.index-all-count.result c.in_ok-line_here.field-0 _ (omega arith) c.index-all-count.is c.if-not-branch.true c.in_ok-line_here.ensures c.loop-count.invariant

pub returns-in_err-line_here : goal.returns-in_err-line_here
returns-in_err-line_here c =
    let p = err_from_is_err_and c.from_residual.result c.from_residual.ensures.1 in
    rw (p.1, p.2) (same_fault {V = Unit {0}} (λ goes. (goes, c.line_here.new.lines.items, c.line_here.new.self)) (λ _. (0, [], c.args.self.now)) c.in_err-line_here.field-0.0 _ _ (λ f e. line_faulty c.loop-count.self c.loop-count.lines.items c.args.all.now c.loop-count.count c.index-all-count.result f _ (omega arith) c.index-all-count.is c.loop-count.invariant e) c.in_err-line_here.ensures)

pub returns : goal.returns
returns c = lines_ended c.loop-count.self c.loop-count.lines.items c.args.all.now c.loop-count.count (length c.args.all.now) _ c.loop-count-test.false (omega arith) c.loop-count.invariant
