use Rattle.std.proofs.Common.{◌≡◌, ap, ◌∙◌, subst, arith}
use Rattle.machine.specs.State.{Opening}
use Rattle.book_events.specs.Events.{event_of, reply_of}
use Rattle.turns.specs.Tickets.{blocks_in, OwnReply}
use Rattle.legal.proofs.OpeningLemmas.{called_opening}
use Rattle.book.specs.Passes.{PassOf, call_of, keeping}
use Rattle.book.proofs.PassLemmas.{keeping_call-kept}
use Rattle.driver.specs.Hits.{HitsWithin}
use Rattle.driver.proofs.HitLemmas.{own-leaves, hits_within}
use Rattle.driver.proofs.FindLemmas.{called-by}
use Rattle.turns.proofs.TicketLemmas.{gives_own}
use Rattle.driver.proofs.calls.call.Goals as goal

pub returns-clause-own : goal.returns-clause-own
returns-clause-own c =
    let past = c.call-reply.new.self in
    let said = c.call-reply.result in
    let kept : past.state.opening ≡ c.args.book.now.state.opening = called_opening c.args.book.now past c.args.pass.now.caller (event_of c.args.event) (reply_of said) (called-by c.args.book.now c.args.pass.now (event_of c.args.event) (reply_of c.call-reply.result) c.call-reply.new.self c.requires.current c.call-reply.ensures.called) in
    let Own : Opening → Type 0 = λ o. OwnReply c.args.pass.now.caller.worker (blocks_in o) said in
    subst Own kept (gives_own past c.args.pass.now.caller.worker c.history_is_right.ensures.legal said c.call-reply.ensures.gives)

pub returns-clause-opening : goal.returns-clause-opening
returns-clause-opening c = called_opening c.args.book.now c.call-reply.new.self c.args.pass.now.caller (event_of c.args.event) (reply_of c.call-reply.result) (called-by c.args.book.now c.args.pass.now (event_of c.args.event) (reply_of c.call-reply.result) c.call-reply.new.self c.requires.current c.call-reply.ensures.called)

pub returns-clause-called : goal.returns-clause-called
returns-clause-called c = called-by c.args.book.now c.args.pass.now (event_of c.args.event) (reply_of c.call-reply.result) c.call-reply.new.self c.requires.current c.call-reply.ensures.called

-- what the pass keeps of it
kept : (c : goal.After-history_is_right) → c.call-reply.new.pass ≡ keeping c.args.pass.now (call_of (event_of c.args.event) (reply_of c.call-reply.result))
kept c = c.call-reply.ensures.kept ∙ keeping_call-kept c.args.pass.now (event_of c.args.event) (reply_of c.call-reply.result) (own-leaves c.args.pass.now.caller.worker (blocks_in c.args.book.now.state.opening) c.args.event c.requires.own)

pub returns-clause-pass : goal.returns-clause-pass
returns-clause-pass c = ap (λ (p : PassOf). p.caller) (kept c)

pub returns-clause-room : goal.returns-clause-room
returns-clause-room c = let less = ap (λ (p : PassOf). p.room) (kept c) in omega (arith, less)

pub returns-clause-within : goal.returns-clause-within
returns-clause-within c =
    let called = called-by c.args.book.now c.args.pass.now (event_of c.args.event) (reply_of c.call-reply.result) c.call-reply.new.self c.requires.current c.call-reply.ensures.called in
    subst (λ (o : Opening). HitsWithin o.frames c.call-reply.result) (called_opening c.args.book.now c.call-reply.new.self c.args.pass.now.caller (event_of c.args.event) (reply_of c.call-reply.result) called)
    (hits_within c.args.book.now c.call-reply.new.self c.args.pass.now.caller c.call-reply.new.self.state.opening.frames c.history_is_right.ensures.framed c.args.event c.call-reply.result c.call-reply.ensures.replies called)
