use Rattle.std.proofs.Common.{[], ◌∷◌}
use Rattle.driver.specs.Schedule.{World}
use Rattle.driver.specs.Desks.{world}
use Rattle.driver.proofs.SinkLemmas.{on_err, cuts_first, took_none, one_through}
use Rattle.driver.proofs.desk.Desk.run_one.Goals as goal

pub returns-in_err-step-clause-cut : goal.returns-in_err-step-clause-cut
returns-in_err-step-clause-cut g c =
    let old : World = world c.args.self.now (g.D.BlockDevice.disk c.args.device.now) in
    on_err c.from_residual.result (cuts_first g.S.Sink.took g.S.Sink.failed c.args.sink.now c.step.new.sink old c.args.step.now [] (g.D.BlockDevice.disk c.step.new.device) c.in_err-step.ensures.cut)

pub returns-clause-runs : goal.returns-clause-runs
returns-clause-runs g c =
    let old : World = world c.args.self.now (g.D.BlockDevice.disk c.args.device.now) in
    let new : World = world c.step.new.self (g.D.BlockDevice.disk c.step.new.device) in
    let went = c.in_ok-step.ensures.step in (
      went.0,
      (c.step.new.self).book ∷ [],
      took_none g.S.Sink.took g.met.S.Sink.more _ _ _ _ went.1 c.look.ensures.quiet,
      g.met.S.Sink.further _ _ _ _ _ c.in_ok-step.ensures.unseen (rw c.book.ensures at c.look.ensures.saw),
      one_through old c.args.step.now went.0 new went.2,
    )
