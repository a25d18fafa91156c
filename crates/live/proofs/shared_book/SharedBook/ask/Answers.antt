use Rattle.std.proofs.Common.{rules, ◌≡◌, ◌∙◌, ◌≤◌, ℕ, vec_capacity, sym, subst}
use Rattle.machine.specs.State.{Opening}
use Rattle.machine.specs.Legal.{Legal}
use Rattle.book_events.specs.Events.{event_of, reply_of}
use Rattle.turns.specs.Tickets.{blocks_in, OwnReply}
use Rattle.live.specs.Passes.{book_pass}
use Rattle.turns.proofs.TicketLemmas.{gives_own}
use Rattle.live.proofs.SharedLemmas.{opened-so, shared-call}
use Rattle.live.proofs.shared_book.SharedBook.ask.Goals as goal

pub returns-clause-own : goal.returns-clause-own
returns-clause-own g c =
    let past = c.ask-reply.new.book in
    let worker = c.args.pass.now.caller.worker in
    let told = c.ask-reply.ensures in
    let shared = c.self.invariant.0 in
    let opened : past.state.opening ≡ g.L.Opened.opening =
    opened-so g.L.Opened.table g.L.Opened.opening c.self.inside.book c.self.inside.log shared (book_pass c.args.pass.now) c.args.pass.now.exchanges told.whole told.known told.given (event_of c.args.event) (reply_of c.ask-reply.result) past told.called ∙ shared.opened in
    let Own : Opening → Type 0 = λ o. OwnReply worker (blocks_in o) c.ask-reply.result in
    subst Own opened (gives_own past worker c.history_is_right-2.ensures.legal c.ask-reply.result told.gives)

pub invariant_of-self : goal.invariant_of-self
invariant_of-self g c =
    let told = c.ask-reply.ensures in
    let past = c.self.inside.book in
    let legal = subst (λ (o : Opening). Legal o past.history past.state) c.self.invariant.0.opened c.history_is_right.ensures.legal in (
      shared-call g.L.Opened.table g.L.Opened.opening past c.self.inside.log c.self.invariant.0 (book_pass c.args.pass.now) c.args.pass.now.exchanges told.whole told.known told.given (event_of c.args.event) c.ask-reply.result c.ask-reply.new.book c.ask-reply.new.log
          (search rules) told.called told.passes told.log legal told.gives,
      c.self.invariant.1,
      subst (λ (n : ℕ). n ≤ vec_capacity c.self.inside.ended_passes) (sym told.passes) c.self.invariant.2,
    )
