use Rattle.std.proofs.Common.{◌∙◌, sym, ap, reverse, ℕ}
use Rattle.machine.specs.History.{last}
use Rattle.machine.specs.Audit.{before}
use Rattle.machine.specs.FirstBytes.{first_of, files_of}
use Rattle.trace.specs.Walks.{spot_in}
use Rattle.trace.specs.Links.{or_some}
use Rattle.trace.proofs.LinkLemmas.{last-earlier}
use Rattle.trace.proofs.last_written.linked_last.Goals as goal

pub returns-in-Unknown : goal.returns-in-Unknown
returns-in-Unknown c = c.last.ensures ∙ sym c.walk.invariant.0

pub returns-in-First : goal.returns-in-First
returns-in-First c =
    let xs = c.args.trace.now.entries in
    sym (c.walk.invariant.0 ∙ (c.in-First.ensures (files_of (reverse xs)) c.args.offset ∙ sym c.first_byte.ensures))

pub returns-in-Some : goal.returns-in-Some
returns-in-Some c = c.in-Some.ensures ∙ sym c.walk.invariant.0

pub returns-in-Some-written_at : goal.returns-in-Some-written_at
returns-in-Some-written_at c =
    let xs = c.args.trace.now.entries in
    let here = λ (o : ℕ). last (first_of (reverse xs)) (before xs c.in-Entry.earlier.at) (spot_in c.in-Entry.earlier.page o) in
    let step = last-earlier (files_of (reverse xs)) xs c.walk.stand c.in-Entry.earlier c.entry.result.now c.args.offset c.walk.invariant.1.within c.in-Entry.ensures c.entry.ensures in
    sym (c.walk.invariant.0 ∙ (step ∙ (c.written_at.ensures here ∙ ap (λ r. or_some r (here c.args.offset)) c.in-Some-written_at.is)))

pub walk-preserved : goal.walk-preserved
walk-preserved c =
    let xs = c.args.trace.now.entries in
    let here = λ (o : ℕ). last (first_of (reverse xs)) (before xs c.in-Entry.earlier.at) (spot_in c.in-Entry.earlier.page o) in
    let step = last-earlier (files_of (reverse xs)) xs c.walk.stand c.in-Entry.earlier c.entry.result.now c.args.offset c.walk.invariant.1.within c.in-Entry.ensures c.entry.ensures in
    (c.walk.invariant.0 ∙ (step ∙ (c.written_at.ensures here ∙ ap (λ r. or_some r (here c.args.offset)) c.in_default-written_at.is)), c.in-Entry.ensures.stands)
