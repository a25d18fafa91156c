use Rattle.std.proofs.Common.{◌≡◌, ◌++◌, inr, [], true, refl, subst, arith}
use Rattle.machine.specs.History.{at_first, Honest}
use Rattle.block_store.specs.Device.{Disk}
use Rattle.schedules.specs.Steps.{all_steps}
use Rattle.driver.specs.Schedule.{World, first_world, Runs, RunsThrough, files_on, fits}
use Rattle.std.specs.Prelude.{reverse}
use Rattle.driver.specs.Sinks.{Gives, StartsRun}
use Rattle.driver.specs.Desks.{world}
use Rattle.driver.proofs.ErrorLemmas.{errors_are_failures}
use Rattle.driver.proofs.Faithful.{runs_are_honest}
use Rattle.driver.proofs.Runs.{opened_on, blocks_known, fitting}
use Rattle.driver.proofs.TracedLemmas.{honest-given_up}
use Rattle.driver.proofs.SinkLemmas.{run_starts, opening_starts, runs_of}
use Rattle.driver.proofs.schedule.run_into.Goals as goal

pub returns-in-Err-clause-starts : goal.returns-in-Err-clause-starts
returns-in-Err-clause-starts g c =
    λ fit. record {
      answers = [];
      begun = [];
      few = omega arith;
      heard = record { mid = c.args.sink.now; takes = g.met.S.Sink.nothing _; fails = g.met.S.Sink.stays _ };
      starts = opening_starts c.args.config (g.D.BlockDevice.disk c.args.device.now) (all_steps c.args.steps) fit;
    }

pub run_all-ran-requires : goal.run_all-ran-requires
run_all-ran-requires g c =
    let disk : Disk = g.D.BlockDevice.disk c.args.device.now in
    opened_on c.in-Ok.desk c.args.config disk (c.in-Ok.ensures.opens disk) c.in-Ok.ensures.current (omega (arith, c.if-blocks.false, c.blocks-2.ensures, blocks_known c.args.config c.in-Some.blocks c.in-Some.ensures))

pub returns-in-Ok-ran-clause-gives : goal.returns-in-Ok-ran-clause-gives
returns-in-Ok-ran-clause-gives g c =
    let before : Disk = g.D.BlockDevice.disk c.args.device.now in
    let end : World = world c.run_all-ran.new.self (g.D.BlockDevice.disk c.run_all-ran.new.device) in
    let told = c.in-Ok-ran.ensures.runs in
    let From : World → Type 0 = λ w. RunsThrough w (all_steps c.args.steps) told.0 told.1 end in
    let shown : RunsThrough (first_world c.args.config before) (all_steps c.args.steps) told.0 told.1 end = subst From (c.in-Ok.ensures.opens before) told.4 in
    let ran : Runs (first_world c.args.config before) (all_steps c.args.steps) told.0 end = runs_of (first_world c.args.config before) (all_steps c.args.steps) told.0 told.1 end shown in
    let fit : fits c.args.config before ≡ true = fitting c.args.config before c.in-Ok.ensures.sized (omega (arith, c.if-blocks.false, c.blocks-2.ensures, blocks_known c.args.config c.in-Some.blocks c.in-Some.ensures)) in
    let honest : Honest (at_first (files_on c.args.config before)) end.past.history = runs_are_honest c.args.config before (all_steps c.args.steps) told.0 end fit ran in
    let gives : Gives g.S.Sink.took g.S.Sink.saw c.args.config before (all_steps c.args.steps) c.args.sink.now c.run_all-ran.new.sink (g.D.BlockDevice.disk c.run_all-ran.new.device) =
    record {
      answers = told.0;
      takes = told.2;
      schedules = record { end = end; runs = ran; device = refl; honest = honest; right = c.history_is_right.ensures.right (files_on c.args.config before) honest };
      failures = errors_are_failures c.args.config before (all_steps c.args.steps) told.0 end ran;
      pasts = told.1;
      sees = told.3;
      shown = shown;
    } in
    record {
      gives = gives;
      traced = c.close-trace.ensures.traced;
      passes = c.close-trace.ensures.passes (files_on c.args.config before) (honest-given_up (at_first (files_on c.args.config before)) end.past.history (reverse c.close-trace.result.entries) c.close-trace.ensures.traced honest);
    }

pub returns-in-Ok-ran-clause-sized : goal.returns-in-Ok-ran-clause-sized
returns-in-Ok-ran-clause-sized g c = fitting c.args.config (g.D.BlockDevice.disk c.args.device.now) c.in-Ok.ensures.sized (omega (arith, c.if-blocks.false, c.blocks-2.ensures, blocks_known c.args.config c.in-Some.blocks c.in-Some.ensures))

pub returns-in-Err-ran-clause-starts : goal.returns-in-Err-ran-clause-starts
returns-in-Err-ran-clause-starts g c =
    λ fit.
    let before : Disk = g.D.BlockDevice.disk c.args.device.now in
    let told = c.in-Err-ran.ensures.cut in
    let after : Disk = g.D.BlockDevice.disk c.run_all-ran.new.device in
    let From : World → Type 0 = λ w. StartsRun w (all_steps c.args.steps) (told.answers ++ told.begun) after in
    record {
      answers = told.answers;
      begun = told.begun;
      few = told.few;
      heard = told.heard;
      starts = run_starts c.args.config before (all_steps c.args.steps) (told.answers ++ told.begun) after fit (subst From (c.in-Ok.ensures.opens before) told.starts);
    }

pub returns-in-Err-ran-clause-err : goal.returns-in-Err-ran-clause-err
returns-in-Err-ran-clause-err g c = inr (c.stop_of.ensures, fitting c.args.config (g.D.BlockDevice.disk c.args.device.now) c.in-Ok.ensures.sized (omega (arith, c.if-blocks.false, c.blocks-2.ensures, blocks_known c.args.config c.in-Some.blocks c.in-Some.ensures)))
