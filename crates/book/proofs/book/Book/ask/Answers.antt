use Rattle.std.proofs.Common.{◌≡◌, ◌+◌, ◌∙◌, length, sym, ap, subst, arith}
use Rattle.std.specs.Prelude.{reverse}
use Rattle.machine.specs.declared.reply.Reply.{Reply}
use Rattle.book.specs.declared.book.Book.TheInside.{Inside}
use Rattle.machine.specs.History.{ticket_given, at_first, IsRight}
use Rattle.machine.specs.Call.{Called}
use Rattle.book_events.specs.declared.event.Reply.{Reply as Given}
use Rattle.book.specs.Books.{past_of}
use Rattle.book_events.specs.Events.{reply_of}
use Rattle.book.specs.MakesStep.{RepliesTo, noted}
use Rattle.book_events.specs.Replies.{HandsOut}
use Rattle.book.specs.Decisions.{AnswersTo, IsDecided}
use Rattle.book.proofs.HistoryLemmas.{read_on, flights_within}
use Rattle.book.proofs.TicketLemmas.{gives_more, reply_of-stamped, replies-stamped}
use Rattle.book.proofs.CallLemmas.{history_of, asks, full-decided, called-full, has_room, few_of, few-counted, Appends, told_more, longer, called_more, book_more}
use Rattle.book.proofs.book.Book.ask.Goals as goal

pub apply-requires-clause-few : goal.apply-requires-clause-few
apply-requires-clause-few c = few-counted c.self.inside c.self.invariant c.is_joined.ensures.limit

pub returns-then-is_full-clause-called : goal.returns-then-is_full-clause-called
returns-then-is_full-clause-called c =
    let b = c.self.inside in
    let is : IsDecided b.state c.args.event c.in-Ok.decided = c.in-Ok.ensures in
    let full = sym (full-decided b c.args.self.now c.self.view_is c.args.event c.in-Ok.decided is c.entries.result c.entries.ensures c.is_full.result c.is_full.ensures) ∙ c.if-is_full.true in
    called-full b c.args.self.now c.self.view_is (record { worker = c.args.worker.0 }) c.args.event c.requires.asked is.none full

pub append-requires-clause-room : goal.append-requires-clause-room
append-requires-clause-room c =
    let b = c.self.inside in
    let is : IsDecided b.state c.args.event c.in-Ok.decided = c.in-Ok.ensures in
    let room = sym (full-decided b c.args.self.now c.self.view_is c.args.event c.in-Ok.decided is c.entries.result c.entries.ensures c.is_full.result c.is_full.ensures) ∙ c.if-is_full.false in
    let answers : AnswersTo b.state c.args.event c.in-Ok-apply.reply c.apply.new.state = c.in-Ok-apply.ensures.carries c.args.event is in
    let extending = asks b c.args.self.now c.self.invariant c.self.view_is c.apply.new.state c.is_joined-in-Ok-apply.ensures.flights c.args.worker.0 c.requires.known c.args.event (reply_of c.in-Ok-apply.reply) c.requires.asked is.none room answers.makes_step in
    rw c.reserve_links.ensures.same (has_room b c.apply.new.state c.args.worker.0 c.args.event (reply_of c.in-Ok-apply.reply) extending c.self.invariant)

pub append-requires-clause-few : goal.append-requires-clause-few
append-requires-clause-few c = few_of c.self.inside c.self.invariant c.is_joined.ensures.limit c.args.worker.0

pub invariant_of-self-in-Ok-apply : goal.invariant_of-self-in-Ok-apply
invariant_of-self-in-Ok-apply c =
    let b = c.self.inside in
    let is : IsDecided b.state c.args.event c.in-Ok.decided = c.in-Ok.ensures in
    let room = sym (full-decided b c.args.self.now c.self.view_is c.args.event c.in-Ok.decided is c.entries.result c.entries.ensures c.is_full.result c.is_full.ensures) ∙ c.if-is_full.false in
    let answers : AnswersTo b.state c.args.event c.in-Ok-apply.reply c.apply.new.state = c.in-Ok-apply.ensures.carries c.args.event is in
    let extending = asks b c.args.self.now c.self.invariant c.self.view_is c.apply.new.state c.is_joined-in-Ok-apply.ensures.flights c.args.worker.0 c.requires.known c.args.event (reply_of c.in-Ok-apply.reply) c.requires.asked is.none room answers.makes_step in
    let after : Inside = record { alloc = b.alloc; state = c.apply.new.state; trace = c.append.new.trace; counts = c.append.new.counts; takers = c.hand_out.new.takers } in
    let appends = subst (λ (answer : Reply). Appends b after c.args.worker c.args.event answer) c.plain-said.ensures (record { entries = rw c.reserve_links.ensures.same at c.append.ensures.entries; room = rw c.reserve_links.ensures.same at c.append.ensures.limit; counts = c.append.ensures.counts; takers = c.hand_out.ensures.noted ∙ ap (λ (a : Reply). noted c.apply.new.state.flights b.takers.items c.args.worker.0 (ticket_given a)) (sym c.plain-said.ensures) }) in
    book_more b after c.args.worker c.args.event (reply_of c.in-Ok-apply.reply) c.self.invariant extending appends

pub returns-in-Ok-apply-clause-called : goal.returns-in-Ok-apply-clause-called
returns-in-Ok-apply-clause-called c =
    let b = c.self.inside in
    let is : IsDecided b.state c.args.event c.in-Ok.decided = c.in-Ok.ensures in
    let room = sym (full-decided b c.args.self.now c.self.view_is c.args.event c.in-Ok.decided is c.entries.result c.entries.ensures c.is_full.result c.is_full.ensures) ∙ c.if-is_full.false in
    let answers : AnswersTo b.state c.args.event c.in-Ok-apply.reply c.apply.new.state = c.in-Ok-apply.ensures.carries c.args.event is in
    let extending = asks b c.args.self.now c.self.invariant c.self.view_is c.apply.new.state c.is_joined-in-Ok-apply.ensures.flights c.args.worker.0 c.requires.known c.args.event (reply_of c.in-Ok-apply.reply) c.requires.asked is.none room answers.makes_step in
    let after : Inside = record { alloc = b.alloc; state = c.apply.new.state; trace = c.append.new.trace; counts = c.append.new.counts; takers = c.hand_out.new.takers } in
    let appends = subst (λ (answer : Reply). Appends b after c.args.worker c.args.event answer) c.plain-said.ensures (record { entries = rw c.reserve_links.ensures.same at c.append.ensures.entries; room = rw c.reserve_links.ensures.same at c.append.ensures.limit; counts = c.append.ensures.counts; takers = c.hand_out.ensures.noted ∙ ap (λ (a : Reply). noted c.apply.new.state.flights b.takers.items c.args.worker.0 (ticket_given a)) (sym c.plain-said.ensures) }) in
    let said : reply_of c.hand_out.result ≡ reply_of c.in-Ok-apply.reply = ap reply_of c.hand_out.ensures.stamped ∙ reply_of-stamped c.args.worker.0 (c.len.result + 1) c.in-Ok-apply.reply in
    rw (← c.self.view_is)
    (subst (λ (answer : Reply). Called (past_of b) (record { worker = c.args.worker.0 }) c.args.event answer (past_of after)) (sym said)
    (called_more b after c.args.worker c.args.event (reply_of c.in-Ok-apply.reply) c.self.invariant extending appends))

pub returns-in-Ok-apply-clause-reads : goal.returns-in-Ok-apply-clause-reads
returns-in-Ok-apply-clause-reads c =
    let b = c.self.inside in
    let is : IsDecided b.state c.args.event c.in-Ok.decided = c.in-Ok.ensures in
    let room = sym (full-decided b c.args.self.now c.self.view_is c.args.event c.in-Ok.decided is c.entries.result c.entries.ensures c.is_full.result c.is_full.ensures) ∙ c.if-is_full.false in
    let answers : AnswersTo b.state c.args.event c.in-Ok-apply.reply c.apply.new.state = c.in-Ok-apply.ensures.carries c.args.event is in
    let extending = asks b c.args.self.now c.self.invariant c.self.view_is c.apply.new.state c.is_joined-in-Ok-apply.ensures.flights c.args.worker.0 c.requires.known c.args.event (reply_of c.in-Ok-apply.reply) c.requires.asked is.none room answers.makes_step in
    let said : reply_of c.hand_out.result ≡ reply_of c.in-Ok-apply.reply = ap reply_of c.hand_out.ensures.stamped ∙ reply_of-stamped c.args.worker.0 (c.len.result + 1) c.in-Ok-apply.reply in
    rw (← c.self.view_is)
    (λ files honest. subst (λ (answer : Reply). IsRight (at_first files) (history_of b) c.args.event answer) (sym said)
    (read_on b.state c.apply.new.state (history_of b) b.counts.items b.takers.items c.args.worker.0 c.args.event (reply_of c.in-Ok-apply.reply) extending files honest))

pub returns-in-Ok-apply-clause-replies : goal.returns-in-Ok-apply-clause-replies
returns-in-Ok-apply-clause-replies c =
    let b = c.self.inside in
    let is : IsDecided b.state c.args.event c.in-Ok.decided = c.in-Ok.ensures in
    let answers : AnswersTo b.state c.args.event c.in-Ok-apply.reply c.apply.new.state = c.in-Ok-apply.ensures.carries c.args.event is in
    subst (λ (reply : Given). RepliesTo c.args.event reply) (sym c.hand_out.ensures.stamped) (replies-stamped c.args.worker.0 (c.len.result + 1) c.args.event c.in-Ok-apply.reply answers.replies)

pub hand_out-requires : goal.hand_out-requires
hand_out-requires c =
    let b = c.self.inside in
    let is : IsDecided b.state c.args.event c.in-Ok.decided = c.in-Ok.ensures in
    let room = sym (full-decided b c.args.self.now c.self.view_is c.args.event c.in-Ok.decided is c.entries.result c.entries.ensures c.is_full.result c.is_full.ensures) ∙ c.if-is_full.false in
    let answers : AnswersTo b.state c.args.event c.in-Ok-apply.reply c.apply.new.state = c.in-Ok-apply.ensures.carries c.args.event is in
    let extending = asks b c.args.self.now c.self.invariant c.self.view_is c.apply.new.state c.is_joined-in-Ok-apply.ensures.flights c.args.worker.0 c.requires.known c.args.event (reply_of c.in-Ok-apply.reply) c.requires.asked is.none room answers.makes_step in
    record { known = flights_within b.state c.apply.new.state (history_of b) b.counts.items b.takers.items c.args.worker.0 c.args.event (reply_of c.in-Ok-apply.reply) extending }

pub returns-in-Ok-apply-clause-gives : goal.returns-in-Ok-apply-clause-gives
returns-in-Ok-apply-clause-gives c =
    let b = c.self.inside in
    let is : IsDecided b.state c.args.event c.in-Ok.decided = c.in-Ok.ensures in
    let room = sym (full-decided b c.args.self.now c.self.view_is c.args.event c.in-Ok.decided is c.entries.result c.entries.ensures c.is_full.result c.is_full.ensures) ∙ c.if-is_full.false in
    let answers : AnswersTo b.state c.args.event c.in-Ok-apply.reply c.apply.new.state = c.in-Ok-apply.ensures.carries c.args.event is in
    let extending = asks b c.args.self.now c.self.invariant c.self.view_is c.apply.new.state c.is_joined-in-Ok-apply.ensures.flights c.args.worker.0 c.requires.known c.args.event (reply_of c.in-Ok-apply.reply) c.requires.asked is.none room answers.makes_step in
    let after : Inside = record { alloc = b.alloc; state = c.apply.new.state; trace = c.append.new.trace; counts = c.append.new.counts; takers = c.hand_out.new.takers } in
    let appends = subst (λ (answer : Reply). Appends b after c.args.worker c.args.event answer) c.plain-said.ensures (record { entries = rw c.reserve_links.ensures.same at c.append.ensures.entries; room = rw c.reserve_links.ensures.same at c.append.ensures.limit; counts = c.append.ensures.counts; takers = c.hand_out.ensures.noted ∙ ap (λ (a : Reply). noted c.apply.new.state.flights b.takers.items c.args.worker.0 (ticket_given a)) (sym c.plain-said.ensures) }) in
    let told = told_more b after c.args.worker c.args.event (reply_of c.in-Ok-apply.reply) c.self.invariant extending appends in
    let more = longer b after c.args.worker c.args.event (reply_of c.in-Ok-apply.reply) c.self.invariant extending appends in
    let len = rw c.reserve_links.ensures.same at c.len.ensures in
    subst (λ (reply : Given). HandsOut (past_of after) c.args.worker.0 reply) (sym c.hand_out.ensures.stamped)
    (gives_more c.apply.new.state (reverse c.append.new.trace.entries) c.append.new.counts.items c.hand_out.new.takers.items (length c.append.new.counts.items) c.args.worker.0 (c.len.result + 1) c.in-Ok-apply.reply told
    (omega (arith, more, len)) answers.gives)
