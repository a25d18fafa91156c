use Rattle.std.proofs.Common.{◌≡◌, ◌∙◌, ◌++◌, ◌∷◌, [], List, ap, false, length, rules, sym}
use Rattle.std.specs.Prelude.{nat_eq}
use Rattle.std.specs.List.{list_any}
use Rattle.driver.specs.declared.seat.Activity.{Activity}
use Rattle.driver.specs.declared.seat.Activity.TheVariants.{Rests}
use Rattle.driver.specs.declared.seat.Seat.{Seat}
use Rattle.driver.specs.Schedule.{number_of, with_activity}
use Rattle.driver.specs.Seats.{numbers_of}
use Rattle.driver.proofs.SeatLists.{activity_of-none, with_activity-none, number_missing, numbers-push, own-changed, added_last}
use Rattle.driver.proofs.seats.Seats.add.Goals as goal

pub returns-clause-now : goal.returns-clause-now
returns-clause-now c =
    let view : c.args.self.now ≡ c.self.inside.list.items = cc in
    rw c.reserve.ensures.items at c.push_reserved.ensures.items
    ∙ rw view (sym (with_activity-none c.args.actor Rests c.self.inside.list.items (rw view at c.requires)))
    ∙ ap (λ (a : Activity). with_activity c.args.actor a c.args.self.now) (sym (activity_of-none c.args.actor c.args.self.now c.requires))

pub returns-clause-place : goal.returns-clause-place
returns-clause-place c =
    let view : c.args.self.now ≡ c.self.inside.list.items = cc in
    let sits : c.push_reserved.new.self.items ≡ with_activity c.args.actor Rests c.args.self.now =
    rw c.reserve.ensures.items at c.push_reserved.ensures.items
    ∙ rw view (sym (with_activity-none c.args.actor Rests c.self.inside.list.items (rw view at c.requires))) in
    let here : c.len-place.result ≡ length c.self.inside.list.items = search rules in
    added_last c.args.actor c.len-place.result c.args.self.now c.push_reserved.new.self.items c.requires (rw view here) sits

pub returns-clause-own : goal.returns-clause-own
returns-clause-own c =
    let view : c.args.self.now ≡ c.self.inside.list.items = cc in
    let sits : c.push_reserved.new.self.items ≡ with_activity c.args.actor Rests c.args.self.now =
    rw c.reserve.ensures.items at c.push_reserved.ensures.items
    ∙ rw view (sym (with_activity-none c.args.actor Rests c.self.inside.list.items (rw view at c.requires))) in
    λ worker blocks own. own-changed worker blocks c.args.actor Rests c.args.self.now c.push_reserved.new.self.items sits own tt

-- the number goes behind the others, as the seat does
pub invariant_of-self-2 : goal.invariant_of-self-2
invariant_of-self-2 c =
    let seats : List Seat = c.self.inside.list.items in
    let seat : Seat = record { actor = c.args.actor; activity = Rests } in
    let view : c.args.self.now ≡ c.self.inside.list.items = cc in
    let new : list_any (nat_eq (number_of c.args.actor)) (numbers_of seats) ≡ false = number_missing c.args.actor seats (rw view at c.requires) in
    let keys : c.insert.new.self.keys ≡ numbers_of seats ++ number_of c.args.actor ∷ [] =
    rw new at (rw (c.number_of.ensures, c.self.invariant) at c.in_ok-insert.ensures.keys) in
    let pushed : c.push_reserved.new.self.items ≡ seats ++ seat ∷ [] = rw c.reserve.ensures.items at c.push_reserved.ensures.items in
    keys ∙ sym (ap (λ (ss : List Seat). numbers_of ss) pushed ∙ numbers-push seats seat)
