use Rattle.std.proofs.Common.{List, take}
use Rattle.machine.specs.declared.command.Reply.{Reply}
use Rattle.machine.specs.Call.{Past}
use Rattle.driver.specs.Schedule.{RunsThrough}
use Rattle.driver.specs.Desks.{world, IsOn, IsSame}
use Rattle.driver.proofs.desk.Desk.run_list.Given as goal

abbrev pub invariant-loop-at : goal.invariant-loop-at
invariant-loop-at g l = record {
  on : IsOn l.self (g.D.BlockDevice.disk l.device);
  same : IsSame (g.D.BlockDevice.disk l.fn.device) (g.D.BlockDevice.disk l.device);
  ran : (answers : List Reply) × (pasts : List Past) × g.S.Sink.took l.fn.sink l.sink answers × g.S.Sink.saw l.fn.sink l.sink pasts
      × RunsThrough (world l.fn.self (g.D.BlockDevice.disk l.fn.device)) (take l.at l.steps) answers pasts (world l.self (g.D.BlockDevice.disk l.device));
}
