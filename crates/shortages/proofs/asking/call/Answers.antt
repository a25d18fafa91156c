use Rattle.std.proofs.Common.{◌≡◌, ap, ◌∙◌, arith}
use Rattle.book_events.specs.Events.{event_of, reply_of}
use Rattle.book.specs.Passes.{PassOf, call_of, keeping}
use Rattle.book.proofs.PassLemmas.{keeping_call-kept}
use Rattle.driver.proofs.HitLemmas.{own-leaves}
use Rattle.turns.specs.Tickets.{blocks_in}
use Rattle.turns.proofs.TicketLemmas.{gives_own}
use Rattle.shortages.proofs.asking.call.Goals as goal

-- what the pass keeps of it
kept : (c : goal.After-history_is_right) → c.call-reply.new.pass ≡ keeping c.args.pass.now (call_of (event_of c.args.event) (reply_of c.call-reply.result))
kept c = c.call-reply.ensures.kept ∙ keeping_call-kept c.args.pass.now (event_of c.args.event) (reply_of c.call-reply.result) (own-leaves c.args.pass.now.caller.worker c.requires.own.0 c.args.event c.requires.own.1)

pub returns-clause-own : goal.returns-clause-own
returns-clause-own c =
    let past = c.call-reply.new.self in
    (blocks_in past.state.opening, gives_own past c.args.pass.now.caller.worker c.history_is_right.ensures.legal c.call-reply.result c.call-reply.ensures.gives)

pub returns-clause-worker : goal.returns-clause-worker
returns-clause-worker c = ap (λ (p : PassOf). p.caller.worker) (kept c)

pub returns-clause-room : goal.returns-clause-room
returns-clause-room c = let less = ap (λ (p : PassOf). p.room) (kept c) in omega (arith, less)
