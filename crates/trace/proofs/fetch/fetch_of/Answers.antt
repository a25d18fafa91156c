use Rattle.std.proofs.Common.{◌-◌, ◌∙◌, ap, sym, arith}
use Rattle.machine.specs.History.{fetch_of}
use Rattle.machine.specs.Audit.{before}
use Rattle.trace.specs.Walks.{or_access}
use Rattle.trace.proofs.WalkLemmas.{fetch_of-less}
use Rattle.trace.proofs.LinkLemmas.{same_entry}
use Rattle.trace.specs.Links.{accessed}
use Rattle.machine.specs.declared.entry.Entry.{Entry}
use Rattle.trace.proofs.fetch.fetch_of.Goals as goal

pub returns-in-Some-clause-fetched : goal.returns-in-Some-clause-fetched
returns-in-Some-clause-fetched c =
    let xs = c.args.entries.now in
    let less = fetch_of-less xs c.loop-at.at c.args.ticket.0 c.index-entries-at.result c.access_of.result (omega arith) (omega arith) c.index-entries-at.is c.access_of.ensures.begins in
    sym (c.loop-at.invariant ∙ (less ∙ ap (λ r. or_access (before xs (c.loop-at.at - 1)) r (fetch_of c.args.ticket.0 (before xs (c.loop-at.at - 1)))) c.in-Some.is))

pub loop-at-preserved : goal.loop-at-preserved
loop-at-preserved c =
    let xs = c.args.entries.now in
    let less = fetch_of-less xs c.loop-at.at c.args.ticket.0 c.index-entries-at.result c.access_of.result (omega arith) (omega arith) c.index-entries-at.is c.access_of.ensures.begins in
    c.loop-at.invariant ∙ (less ∙ ap (λ r. or_access (before xs (c.loop-at.at - 1)) r (fetch_of c.args.ticket.0 (before xs (c.loop-at.at - 1)))) c.in_default.is)

pub returns-in-Some-clause-own : goal.returns-in-Some-clause-own
returns-in-Some-clause-own c = λ e is.
    ap (λ (x : Entry). accessed x.event) (same_entry c.args.entries.now (c.loop-at.at - 1) c.index-entries-at.result e (omega arith) c.index-entries-at.is is) ∙ c.in-Some.ensures.own
