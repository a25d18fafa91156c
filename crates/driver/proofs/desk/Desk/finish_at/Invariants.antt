use Rattle.std.proofs.Common.{◌≡◌, List, [], length}
use Rattle.std.specs.Prelude.{◌<◌, IfSome}
use Rattle.driver.specs.declared.seat.Activity.TheVariants.{Rests}
use Rattle.driver.specs.declared.seat.Outcome.{Outcome}
use Rattle.driver.specs.Schedule.{Goings, all_said, activity_of}
use Rattle.driver.specs.Seats.{SitsAt}
use Rattle.driver.specs.Desks.{world, lent_to, IsOn, IsSame}
use Rattle.driver.proofs.desk.Desk.finish_at.Given as goal

abbrev pub invariant-loop-turn : goal.invariant-loop-turn
invariant-loop-turn g l = record {
  on : IsOn l.self (g.D.BlockDevice.disk l.device);
  same : IsSame (g.D.BlockDevice.disk l.fn.device) (g.D.BlockDevice.disk l.device);
  place : SitsAt l.actor l.place l.self.seats;
  first : IfSome l.lent (λ _. l._turn ≡ 0);
  rests : IfSome l.lent (λ _. activity_of l.actor l.self.seats ≡ Rests);
  some : IfSome l.lent (λ _. 0 < l.fn.self.turns);
  goes : (earlier : List Outcome) × (length earlier ≡ l._turn) × g.S.Sink.took l.fn.sink l.sink (all_said l.fn.actor earlier)
      × Goings (lent_to (world l.fn.self (g.D.BlockDevice.disk l.fn.device)) l.fn.actor l.fn.lent) l.fn.actor earlier (lent_to (world l.self (g.D.BlockDevice.disk l.device)) l.actor l.lent);
  unseen : g.S.Sink.saw l.fn.sink l.sink [];
}
