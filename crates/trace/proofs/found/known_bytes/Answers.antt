use Rattle.std.proofs.Common.{◌<◌, sym, ◌∙◌, arith}
use Rattle.trace.proofs.FoundLemmas.{known}
use Rattle.trace.proofs.found.known_bytes.Goals as goal

pub returns-in-Arrived : goal.returns-in-Arrived
returns-in-Arrived c =
    let low : c.in_ok-at.at < c.args.end = omega (arith, c.if-at-end.false) in
    known c.args.trace.now.entries c.args.end c.in_ok-at.at c.in-After.after c.in-Arrived.ticket c.in-Arrived.bytes c.args.stand c.entry-2.result.now c.entry.result.now c.in-Some.field-0
    low c.requires.within c.requires.good c.requires.stand c.in-After.is c.entry.ensures (sym c.accessed.ensures ∙ c.in-Some.is) c.entry-2.ensures c.in-Arrived.is (c.has_found.ensures c.if-has_found.true)
