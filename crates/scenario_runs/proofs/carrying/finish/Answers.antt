use Rattle.std.proofs.Common.{suc, refl}
use Rattle.scenario_runs.proofs.CarryLemmas.{turn_more, is_then}
use Rattle.scenario_runs.proofs.carrying.finish.Goals as goal

pub loop-init : goal.loop-init
loop-init g c = (0, (refl, refl))

pub loop-preserved : goal.loop-preserved
loop-preserved g c =
    let so_far = c.loop.invariant in (
      suc so_far.0,
      turn_more g.O.Sink.took g.O.Sink.saw g.O.Observer.goes_on g.met.O.Observer.unchanged g.met.O.Observer.longer so_far.0 c.args.observer.now c.loop.observer c.take_step.new.observer c.args.stepper.now c.loop.stepper c.take_step.new.stepper c.args.actor so_far.1
          (is_then c.is_under_way.ensures c.if-not-is_under_way.false) c.in_ok-take_step.ensures,
    )

pub returns-then-not-is_under_way : goal.returns-then-not-is_under_way
returns-then-not-is_under_way g c = (c.loop.invariant.0, c.loop.invariant.1, is_then c.is_under_way.ensures c.if-not-is_under_way.true)
