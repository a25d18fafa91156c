use Rattle.std.proofs.Common.{List, take}
use Rattle.machine.specs.declared.command.Reply.{Reply}
use Rattle.machine.specs.Call.{Past}
use Rattle.driver.specs.Schedule.{RunsThrough}
use Rattle.driver.specs.Desks.{world, IsOn, IsSame}
use Rattle.schedules.specs.Schedule.{steps_of}
use Rattle.driver.proofs.desk.Desk.run_lines.Given as goal

abbrev pub invariant-loop-line : goal.invariant-loop-line
invariant-loop-line g l = record {
  on : IsOn l.self (g.D.BlockDevice.disk l.device);
  same : IsSame (g.D.BlockDevice.disk l.fn.device) (g.D.BlockDevice.disk l.device);
  ran : (answers : List Reply) × (pasts : List Past) × g.S.Sink.took l.fn.sink l.sink answers × g.S.Sink.saw l.fn.sink l.sink pasts
      × RunsThrough (world l.fn.self (g.D.BlockDevice.disk l.fn.device)) (steps_of (take l.line-index l.lines)) answers pasts (world l.self (g.D.BlockDevice.disk l.device));
}
