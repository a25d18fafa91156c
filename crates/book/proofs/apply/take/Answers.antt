use Rattle.book.proofs.CarryLemmas.{carries-out, carries-dropped}
use Rattle.book.specs.Decisions.{with_counted, counted_for}
use Rattle.page_state.specs.Changes.{TakesPage}
use Rattle.std.proofs.Common.{Option, subst}
use Rattle.pages.specs.Tickets.{TicketOf}
use Rattle.book.proofs.apply.take.Goals as goal

pub count_low-requires-clause-live : goal.count_low-requires-clause-live
count_low-requires-clause-live c = c.requires.sound.3

pub take_out-requires-clause-next : goal.take_out-requires-clause-next
take_out-requires-clause-next c = rw c.count_low.ensures c.requires.sound.1

pub returns-in-Some : goal.returns-in-Some
returns-in-Some c =
    let s = c.args.state.now in
    carries-out s c.take_out.new.self c.args.goal c.args.target c.args.served c.in-Some.ticket
    (subst (λ (ticket : Option TicketOf). TakesPage (with_counted s (counted_for s.tables c.args.served)) c.take_out.new.self c.args.goal c.args.target.0 c.args.served.group.0 ticket) c.in-Some.is (rw c.count_low.ensures at c.take_out.ensures))

pub returns-in-None : goal.returns-in-None
returns-in-None c =
    let s = c.args.state.now in
    carries-dropped s c.take_out.new.self (record { first = s.tables.opening.swap; sizes = s.tables.opening.files }) c.args.goal c.args.target c.args.served
    c.is_joined.ensures.filed
    (subst (λ (ticket : Option TicketOf). TakesPage (with_counted s (counted_for s.tables c.args.served)) c.take_out.new.self c.args.goal c.args.target.0 c.args.served.group.0 ticket) c.in-None.is (rw c.count_low.ensures at c.take_out.ensures))
