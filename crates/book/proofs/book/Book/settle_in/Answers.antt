use Rattle.std.proofs.Common.{ℕ, List, ◌∙◌, refl, sym, ap, subst}
use Rattle.std.proofs.lemmas.Bool.{and_parts}
use Rattle.machine.specs.declared.record.Direction.TheVariants.{In}
use Rattle.machine.specs.Pages.{is_in_flight}
use Rattle.machine.specs.Call.{Past}
use Rattle.machine.specs.declared.event.Event.{Event}
use Rattle.machine.specs.declared.reply.Reply.TheVariants as reply
use Rattle.book.specs.declared.book.Book.TheInside.{Inside}
use Rattle.book_events.specs.Events.{ended, ended_with}
use Rattle.book.proofs.FlightLemmas.{flying-stands}
use Rattle.book.proofs.MoveLemmas.{filed-single, makes_step-settled_in}
use Rattle.book.proofs.CallLemmas.{called-stranger, ended-known, ended-none, ended-free, ended-leaves, ends, has_room, few_of, Appends, called_more, book_more}
use Rattle.book.proofs.book.Book.settle_in.Goals as goal

pub returns-then-not-is_own-clause-called : goal.returns-then-not-is_own-clause-called
returns-then-not-is_own-clause-called c =
    called-stranger c.args.self.now (record { worker = c.args.worker.0 }) (ended In c.args.end c.args.ticket) (ended-known c.args.self.now (record { worker = c.args.worker.0 }) In c.args.end c.args.ticket ∙ rw (← c.number-number.ensures) (sym c.if-not-is_own.ensures))

pub append-requires-clause-room : goal.append-requires-clause-room
append-requires-clause-room c =
    let b = c.self.inside in
    let known = ended-known c.args.self.now (record { worker = c.args.worker.0 }) In c.args.end c.args.ticket ∙ rw (← c.number-number.ensures) (sym c.if-not-is_own.ensures) in
    let stood = flying-stands b.state.tables.pages In c.args.ticket.number (ap (λ (p : Past). is_in_flight In p.state.pages c.args.ticket.number) c.self.view_is ∙ (and_parts _ _ (sym (ended-known c.args.self.now (record { worker = c.args.worker.0 }) In c.args.end c.args.ticket) ∙ known)).0) in
    let single = filed-single (record { first = b.state.tables.opening.swap; sizes = b.state.tables.opening.files }) b.state.tables.pages c.is_joined.ensures.filed in
    let makes_step = makes_step-settled_in b.state c.settle_in-bytes.new.self stood.0 stood.2 stood.3 stood.1 c.args.ticket c.args.end single stood.4 (c.settle_in-bytes.ensures.ends stood.0 stood.1 stood.2 stood.3 stood.4) (c.settle_in-bytes.ensures.arrives stood.0 stood.1 stood.2 stood.3 stood.4) in
    let extending = ends b c.args.self.now c.self.invariant c.self.view_is c.settle_in-bytes.new.self c.is_joined-2.ensures.flights c.args.worker.0 c.requires (ended In c.args.end c.args.ticket) known (ended-none b.state.tables In c.args.end c.args.ticket) (ended-free b.state.tables In c.args.end c.args.ticket) (ended-leaves In c.args.end c.args.ticket) makes_step in
    has_room b c.settle_in-bytes.new.self c.args.worker.0 (ended In c.args.end c.args.ticket) reply.Ok extending c.self.invariant

pub append-requires-clause-few : goal.append-requires-clause-few
append-requires-clause-few c = few_of c.self.inside c.self.invariant c.is_joined.ensures.limit c.args.worker.0

pub invariant_of-self : goal.invariant_of-self
invariant_of-self c =
    let b = c.self.inside in
    let known = ended-known c.args.self.now (record { worker = c.args.worker.0 }) In c.args.end c.args.ticket ∙ rw (← c.number-number.ensures) (sym c.if-not-is_own.ensures) in
    let stood = flying-stands b.state.tables.pages In c.args.ticket.number (ap (λ (p : Past). is_in_flight In p.state.pages c.args.ticket.number) c.self.view_is ∙ (and_parts _ _ (sym (ended-known c.args.self.now (record { worker = c.args.worker.0 }) In c.args.end c.args.ticket) ∙ known)).0) in
    let single = filed-single (record { first = b.state.tables.opening.swap; sizes = b.state.tables.opening.files }) b.state.tables.pages c.is_joined.ensures.filed in
    let makes_step = makes_step-settled_in b.state c.settle_in-bytes.new.self stood.0 stood.2 stood.3 stood.1 c.args.ticket c.args.end single stood.4 (c.settle_in-bytes.ensures.ends stood.0 stood.1 stood.2 stood.3 stood.4) (c.settle_in-bytes.ensures.arrives stood.0 stood.1 stood.2 stood.3 stood.4) in
    let extending = ends b c.args.self.now c.self.invariant c.self.view_is c.settle_in-bytes.new.self c.is_joined-2.ensures.flights c.args.worker.0 c.requires (ended In c.args.end c.args.ticket) known (ended-none b.state.tables In c.args.end c.args.ticket) (ended-free b.state.tables In c.args.end c.args.ticket) (ended-leaves In c.args.end c.args.ticket) makes_step in
    let after : Inside = record { alloc = b.alloc; state = c.settle_in-bytes.new.self; trace = c.append.new.trace; counts = c.append.new.counts; takers = b.takers } in
    let appends = subst (λ (what : Event). Appends b after c.args.worker what reply.Ok)
    (c.in_ended-event.ensures ∙ ap (λ (n : ℕ). ended_with In c.args.end n c.settle_in-bytes.result) c.number-number.ensures ∙ ap (λ (bytes : List ℕ). ended_with In c.args.end c.args.ticket.number bytes) c.settle_in-bytes.ensures.bytes)
    (record { entries = c.append.ensures.entries; room = c.append.ensures.limit; counts = c.append.ensures.counts; takers = refl }) in
    book_more b after c.args.worker (ended In c.args.end c.args.ticket) reply.Ok c.self.invariant extending appends

pub returns-clause-called : goal.returns-clause-called
returns-clause-called c =
    let b = c.self.inside in
    let known = ended-known c.args.self.now (record { worker = c.args.worker.0 }) In c.args.end c.args.ticket ∙ rw (← c.number-number.ensures) (sym c.if-not-is_own.ensures) in
    let stood = flying-stands b.state.tables.pages In c.args.ticket.number (ap (λ (p : Past). is_in_flight In p.state.pages c.args.ticket.number) c.self.view_is ∙ (and_parts _ _ (sym (ended-known c.args.self.now (record { worker = c.args.worker.0 }) In c.args.end c.args.ticket) ∙ known)).0) in
    let single = filed-single (record { first = b.state.tables.opening.swap; sizes = b.state.tables.opening.files }) b.state.tables.pages c.is_joined.ensures.filed in
    let makes_step = makes_step-settled_in b.state c.settle_in-bytes.new.self stood.0 stood.2 stood.3 stood.1 c.args.ticket c.args.end single stood.4 (c.settle_in-bytes.ensures.ends stood.0 stood.1 stood.2 stood.3 stood.4) (c.settle_in-bytes.ensures.arrives stood.0 stood.1 stood.2 stood.3 stood.4) in
    let extending = ends b c.args.self.now c.self.invariant c.self.view_is c.settle_in-bytes.new.self c.is_joined-2.ensures.flights c.args.worker.0 c.requires (ended In c.args.end c.args.ticket) known (ended-none b.state.tables In c.args.end c.args.ticket) (ended-free b.state.tables In c.args.end c.args.ticket) (ended-leaves In c.args.end c.args.ticket) makes_step in
    let after : Inside = record { alloc = b.alloc; state = c.settle_in-bytes.new.self; trace = c.append.new.trace; counts = c.append.new.counts; takers = b.takers } in
    let appends = subst (λ (what : Event). Appends b after c.args.worker what reply.Ok)
    (c.in_ended-event.ensures ∙ ap (λ (n : ℕ). ended_with In c.args.end n c.settle_in-bytes.result) c.number-number.ensures ∙ ap (λ (bytes : List ℕ). ended_with In c.args.end c.args.ticket.number bytes) c.settle_in-bytes.ensures.bytes)
    (record { entries = c.append.ensures.entries; room = c.append.ensures.limit; counts = c.append.ensures.counts; takers = refl }) in
    rw (← c.self.view_is) (called_more b after c.args.worker (ended In c.args.end c.args.ticket) reply.Ok c.self.invariant extending appends)
