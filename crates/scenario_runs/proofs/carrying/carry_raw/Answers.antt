use Rattle.std.proofs.Common.{◌++◌, ◌∷◌, []}
use Rattle.scenario_runs.proofs.CarryLemmas.{entry_more}
use Rattle.scenario_runs.proofs.carrying.carry_raw.Goals as goal

pub loop-line-preserved : goal.loop-line-preserved
loop-line-preserved g c =
    let so_far = c.loop-line.invariant in (
      so_far.0 ++ c.line-item.result.entry ∷ [],
      entry_more g.O.Sink.took g.O.Sink.saw g.O.Observer.goes_on g.met.O.Observer.unchanged g.met.O.Observer.longer so_far.0 c.line-item.result.entry c.args.observer.now c.loop-line.observer c.carry_entry.new.observer c.args.stepper.now
          c.loop-line.stepper c.carry_entry.new.stepper so_far.1 c.in_ok-carry_entry.ensures,
    )
