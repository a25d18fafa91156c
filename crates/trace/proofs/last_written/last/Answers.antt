use Rattle.std.proofs.Common.{◌-◌, ◌∙◌, ap, sym, reverse, arith}
use Rattle.machine.specs.History.{last}
use Rattle.machine.specs.FirstBytes.{first_of}
use Rattle.machine.specs.Audit.{before}
use Rattle.trace.specs.Walks.{spot_in, looked}
use Rattle.trace.proofs.WalkLemmas.{last-less, last-none}
use Rattle.trace.proofs.last_written.last.Goals as goal

pub returns-in-Byte : goal.returns-in-Byte
returns-in-Byte c =
    let xs = c.args.trace.now.entries in
    let first = first_of (reverse xs) in
    let less = last-less first xs c.loop-at.at c.entry.result.now c.loop-at.page c.args.offset c.look.result c.loop-at-test.true (omega arith) c.entry.ensures c.look.ensures in
    sym (c.loop-at.invariant ∙ (less ∙ ap (λ r. looked r (last first (before xs (c.loop-at.at - 1))) c.args.offset) c.in-Byte.is))

pub loop-at-preserved : goal.loop-at-preserved
loop-at-preserved c =
    let xs = c.args.trace.now.entries in
    let first = first_of (reverse xs) in
    let less = last-less first xs c.loop-at.at c.entry.result.now c.loop-at.page c.args.offset c.look.result c.loop-at-test.true (omega arith) c.entry.ensures c.look.ensures in
    c.loop-at.invariant ∙ (less ∙ ap (λ r. looked r (last first (before xs (c.loop-at.at - 1))) c.args.offset) c.in-Before.is)

pub returns : goal.returns
returns c =
    let xs = c.args.trace.now.entries in
    let first = first_of (reverse xs) in
    sym (c.loop-at.invariant ∙ (last-none first xs c.loop-at.at (spot_in c.loop-at.page c.args.offset) c.loop-at-test.false ∙ sym c.first_byte.ensures))
