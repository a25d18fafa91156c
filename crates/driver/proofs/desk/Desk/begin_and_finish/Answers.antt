use Rattle.std.proofs.Common.{◌++◌, [], ◌∷◌}
use Rattle.machine.specs.declared.command.Step.TheVariants.{Begin, Finish}
use Rattle.driver.specs.Schedule.{World}
use Rattle.driver.specs.Desks.{world}
use Rattle.driver.proofs.SinkLemmas.{on_err, cuts_first, cuts_then, took_none, one_step, whole_through}
use Rattle.driver.proofs.desk.Desk.begin_and_finish.Goals as goal

pub returns-in_err-begin-clause-cut : goal.returns-in_err-begin-clause-cut
returns-in_err-begin-clause-cut g c =
    on_err c.from_residual.result (cuts_first g.S.Sink.took g.S.Sink.failed c.args.sink.now c.begin.new.sink (world c.args.self.now (g.D.BlockDevice.disk c.args.device.now)) (Begin c.args.actor c.args.command.now) (Finish c.args.actor ∷ []) (g.D.BlockDevice.disk c.args.device.now)
    (c.in_err-begin.ensures.cut (g.D.BlockDevice.disk c.args.device.now)))

pub returns-in_err-finish-clause-cut : goal.returns-in_err-finish-clause-cut
returns-in_err-finish-clause-cut g c =
    let old : World = world c.args.self.now (g.D.BlockDevice.disk c.args.device.now) in
    let mid : World = world c.begin.new.self (g.D.BlockDevice.disk c.args.device.now) in
    let first = c.in_ok-begin.ensures.begins in
    on_err c.from_residual-in_err-finish.result
    (cuts_then g.S.Sink.took g.S.Sink.failed g.met.S.Sink.more c.args.sink.now c.look.new.self c.finish.new.sink old (Begin c.args.actor c.args.command.now ∷ []) first.0 mid (Finish c.args.actor ∷ []) (g.D.BlockDevice.disk c.finish.new.device)
    (took_none g.S.Sink.took g.met.S.Sink.more _ _ _ _ first.1 c.look.ensures.quiet)
    (one_step old (Begin c.args.actor c.args.command.now) first.0 mid (first.2 (g.D.BlockDevice.disk c.args.device.now)))
    (cuts_first g.S.Sink.took g.S.Sink.failed c.look.new.self c.finish.new.sink mid (Finish c.args.actor) [] (g.D.BlockDevice.disk c.finish.new.device) c.in_err-finish.ensures.cut))

pub returns-clause-runs : goal.returns-clause-runs
returns-clause-runs g c =
    let old : World = world c.args.self.now (g.D.BlockDevice.disk c.args.device.now) in
    let mid : World = world c.begin.new.self (g.D.BlockDevice.disk c.args.device.now) in
    let new : World = world c.finish.new.self (g.D.BlockDevice.disk c.finish.new.device) in
    let first = c.in_ok-begin.ensures.begins in
    let ends = c.in_ok-finish.ensures.finishes in (
      first.0 ++ ends.0,
      (c.begin.new.self).book ∷ (c.finish.new.self).book ∷ [],
      took_none g.S.Sink.took g.met.S.Sink.more _ _ _ _ (g.met.S.Sink.more _ _ _ _ _ (took_none g.S.Sink.took g.met.S.Sink.more _ _ _ _ first.1 c.look.ensures.quiet) ends.1) c.look-2.ensures.quiet,
      g.met.S.Sink.further _ _ _ _ _ c.in_ok-begin.ensures.unseen
          (g.met.S.Sink.further _ _ _ _ _ (rw c.book.ensures at c.look.ensures.saw) (g.met.S.Sink.further _ _ _ _ _ c.in_ok-finish.ensures.unseen (rw c.book-2.ensures at c.look-2.ensures.saw))),
      whole_through old mid new c.args.actor c.args.command.now first.0 ends.0 (first.2 (g.D.BlockDevice.disk c.args.device.now)) ends.2,
    )
