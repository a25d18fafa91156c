use Rattle.std.proofs.Common.{ℕ, sym, subst}
use Rattle.turns.specs.Tickets.{OwnTransition}
use Rattle.shortages.proofs.walk.Machine.turn.Goals as goal

pub call-reply-requires-clause-own : goal.call-reply-requires-clause-own
call-reply-requires-clause-own c = (c.requires.own.0, c.in-Call.ensures.own c.args.self.now.pass.caller.worker c.requires.own.0 c.requires.own.1)

pub returns-in-Ok-clause-own : goal.returns-in-Ok-clause-own
returns-in-Ok-clause-own c =
    let held = c.call-reply.ensures.own in
    (held.0, subst (λ (w : ℕ). OwnTransition w held.0 c.in-Ok.transition) (sym c.call-reply.ensures.worker) (c.in-Ok.ensures.own c.args.self.now.pass.caller.worker held.0 held.1))

pub returns-in-Read-clause-own : goal.returns-in-Read-clause-own
returns-in-Read-clause-own c =
    let worker = c.args.self.now.pass.caller.worker in
    let held = c.requires.own in
    (held.0, c.read_in.ensures.own worker held.0 (c.in-Read.ensures.own worker held.0 held.1))

pub returns-in-Write-clause-own : goal.returns-in-Write-clause-own
returns-in-Write-clause-own c =
    let worker = c.args.self.now.pass.caller.worker in
    let held = c.requires.own in
    (held.0, c.write_out.ensures.own worker held.0 (c.in-Write.ensures.own worker held.0 held.1))
