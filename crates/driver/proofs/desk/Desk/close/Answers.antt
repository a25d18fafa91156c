use Rattle.std.proofs.Common.{List, [], ◌∷◌, ◌∙◌, length, length-append, ap, subst, sym, arith}
use Rattle.machine.specs.Call.{Caller}
use Rattle.machine.specs.State.{Opening}
use Rattle.driver.specs.declared.seat.Seat.{Seat}
use Rattle.turns.specs.Tickets.{blocks_in}
use Rattle.driver.proofs.TracedLemmas.{gives_up-none, gives_up-more}
use Rattle.driver.proofs.SeatLists.{own-popped}
use Rattle.driver.specs.Hands.{OwnSeats}
use Rattle.driver.proofs.desk.Desk.close.Goals as goal

pub give_up-requires-clause-own : goal.give_up-requires-clause-own
give_up-requires-clause-own c =
    let Own : List Seat → Type 0 = λ ss. OwnSeats c.loop-seat.pass.caller.worker (blocks_in c.loop-seat.book.state.opening) ss in
    (own-popped c.loop-seat.pass.caller.worker (blocks_in c.loop-seat.book.state.opening) c.pop.new.self.items c.in-Some.seat (subst Own c.in-Some.ensures.items c.loop-seat.invariant.own)).0

pub loop-seat-preserved : goal.loop-seat-preserved
loop-seat-preserved c =
    let Own : List Seat → Type 0 = λ ss. OwnSeats c.loop-seat.pass.caller.worker (blocks_in c.loop-seat.book.state.opening) ss in
    let Under : Opening → Type 0 = λ o. OwnSeats c.loop-seat.pass.caller.worker (blocks_in o) c.pop.new.self.items in
    let Of : Caller → Type 0 = λ k. OwnSeats k.worker (blocks_in c.give_up.new.book.state.opening) c.pop.new.self.items in
    record {
      current = c.give_up.ensures.current;
      room = (let popped = ap (λ (ss : List Seat). length ss) c.in-Some.ensures.items ∙ length-append c.pop.new.self.items (c.in-Some.seat ∷ []) in omega (arith, popped, c.loop-seat.invariant.room, c.give_up.ensures.room));
      given_up = gives_up-more _ c.loop-seat.book.history c.give_up.new.book.history c.loop-seat.invariant.given_up c.give_up.ensures.given_up;
      own = subst Of (sym c.give_up.ensures.pass)
          (subst Under (sym c.give_up.ensures.opening)
          (own-popped c.loop-seat.pass.caller.worker (blocks_in c.loop-seat.book.state.opening) c.pop.new.self.items c.in-Some.seat (subst Own c.in-Some.ensures.items c.loop-seat.invariant.own)).1);
    }

pub loop-seat-init : goal.loop-seat-init
loop-seat-init c =
    let desk = c.args.self in
    let Own : List Seat → Type 0 = λ ss. OwnSeats desk.pass.caller.worker (blocks_in desk.book.state.opening) ss in
    rw c.into_book-book.ensures
    (record {
      current = c.requires.current;
      room = (let same = ap (λ (ss : List Seat). length ss) c.into_list-seats.ensures in omega (arith, same, c.requires.room));
      given_up = gives_up-none desk.book.history;
      own = subst Own (sym c.into_list-seats.ensures) c.requires.own;
    })

pub returns-clause-passes : goal.returns-clause-passes
returns-clause-passes c = rw c.close.ensures c.history_is_right.ensures.passes
