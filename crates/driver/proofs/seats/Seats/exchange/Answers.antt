use Rattle.std.proofs.Common.{◌≡◌, ◌∙◌, ◌<◌, List, length, ap, sym}
use Rattle.std.specs.Prelude.{slice_set}
use Rattle.driver.specs.declared.seat.Seat.{Seat}
use Rattle.driver.specs.Schedule.{with_activity}
use Rattle.driver.specs.Seats.{place_of}
use Rattle.driver.proofs.SeatLists.{exchanged-was, exchanged-now, numbers-with_activity}
use Rattle.driver.proofs.seats.Seats.exchange.Goals as goal

pub returns-clause-was : goal.returns-clause-was
returns-clause-was c =
    let view : c.args.self.now ≡ c.self.inside.list.items = cc in
    c.replace.ensures.value ∙ exchanged-was c.args.actor c.args.self.now c.args.place c.index_mut.result.now c.requires.is c.requires.within (rw view c.index_mut.ensures.value)

pub returns-clause-now : goal.returns-clause-now
returns-clause-now c =
    let view : c.args.self.now ≡ c.self.inside.list.items = cc in
    let seats : List Seat = c.self.inside.list.items in
    let now : slice_set seats c.args.place (record { actor = c.index_mut.result.now.actor; activity = c.replace.new.dest }) ≡ with_activity c.args.actor c.args.activity seats =
    rw c.replace.ensures.after
    (exchanged-now c.args.actor c.args.activity seats c.args.place c.index_mut.result.now (rw view at c.requires.is) (rw view at c.requires.within) c.index_mut.ensures.value) in
    now ∙ ap (λ (ss : List Seat). with_activity c.args.actor c.args.activity ss) (sym view)

pub invariant_of-self : goal.invariant_of-self
invariant_of-self c =
    let view : c.args.self.now ≡ c.self.inside.list.items = cc in
    let seats : List Seat = c.self.inside.list.items in
    let here : c.args.place ≡ place_of c.args.actor seats = rw view at c.requires.is in
    let within : place_of c.args.actor seats < length seats = rw (sym here) (rw view at c.requires.within) in
    let now : slice_set seats c.args.place (record { actor = c.index_mut.result.now.actor; activity = c.replace.new.dest }) ≡ with_activity c.args.actor c.args.activity seats =
    rw c.replace.ensures.after (exchanged-now c.args.actor c.args.activity seats c.args.place c.index_mut.result.now here (rw view at c.requires.within) c.index_mut.ensures.value) in
    rw now (c.self.invariant ∙ sym (numbers-with_activity c.args.actor c.args.activity seats within))
