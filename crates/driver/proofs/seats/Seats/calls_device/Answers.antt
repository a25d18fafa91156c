use Rattle.std.proofs.Common.{◌≡◌, ◌∙◌, ap, sym}
use Rattle.driver.specs.declared.seat.Activity.{Activity}
use Rattle.driver.specs.Seats.{SitsAt, calls_device}
use Rattle.driver.proofs.SeatLists.{activity_of-none, exchanged-was}
use Rattle.driver.proofs.seats.Seats.calls_device.Goals as goal

pub returns-in-None : goal.returns-in-None
returns-in-None c = sym (ap (λ (a : Activity). calls_device a) (activity_of-none c.args.actor c.args.self.now (rw c.in-None.is at c.requires)))

pub returns-in-Some : goal.returns-in-Some
returns-in-Some c =
    let view : c.args.self.now ≡ c.self.inside.list.items = cc in
    let seat : SitsAt c.args.actor c.in-Some.place c.args.self.now = rw c.in-Some.is at c.requires in
    c.is_calling.ensures ∙ ap (λ (a : Activity). calls_device a) (exchanged-was c.args.actor c.args.self.now c.in-Some.place c.index.result.now seat.is seat.within (rw view c.index.ensures))
