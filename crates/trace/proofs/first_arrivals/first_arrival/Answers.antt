use Rattle.std.proofs.Common.{◌+◌, ◌∙◌, ap, sym}
use Rattle.machine.specs.FirstBytes.{first_arrival}
use Rattle.trace.specs.Walks.{bytes_of}
use Rattle.trace.proofs.WalkLemmas.{before-all}
use Rattle.trace.proofs.FileLemmas.{first_arrival-more, first_arrival-found}
use Rattle.trace.proofs.first_arrivals.first_arrival.Goals as goal

pub returns-in-Some : goal.returns-in-Some
returns-in-Some c =
    let xs = c.args.entries.now in
    let more = first_arrival-more c.args.file c.args.page xs c.loop-at.at c.index-entries-at.result (bytes_of c.brought_by.result) c.loop-at-test.true c.index-entries-at.is c.loop-at.invariant c.brought_by.ensures in
    sym (first_arrival-found c.args.file c.args.page xs (c.loop-at.at + 1) c.in-Some.bytes.now (more ∙ ap bytes_of c.in-Some.is))

pub loop-at-preserved : goal.loop-at-preserved
loop-at-preserved c =
    let xs = c.args.entries.now in
    first_arrival-more c.args.file c.args.page xs c.loop-at.at c.index-entries-at.result (bytes_of c.brought_by.result) c.loop-at-test.true c.index-entries-at.is c.loop-at.invariant c.brought_by.ensures
    ∙ ap bytes_of c.in_default.is

pub returns : goal.returns
returns c =
    sym (ap (first_arrival c.args.file c.args.page) (sym (before-all c.args.entries.now c.loop-at.at c.loop-at-test.false)) ∙ c.loop-at.invariant)
