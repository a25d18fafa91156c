use Rattle.std.proofs.Common.{reverse, arith}
use Rattle.trace.specs.declared.arrival.Turn.TheVariants.{Before, Zeros, Wrong}
use Rattle.machine.specs.FirstBytes.{first_of}
use Rattle.trace.specs.Walks.{spot_in}
use Rattle.trace.proofs.SettledLemmas.{settled-turn, settled-first, settled-ends}
use Rattle.trace.proofs.arrival.rest_is_last.Goals as goal

pub returns-in-Zeros : goal.returns-in-Zeros
returns-in-Zeros c =
    let xs = c.args.trace.now.entries in
    let first = first_of (reverse xs) in
    λ written h.
    let turned = settled-turn c.args.bytes.now c.loop-at.settled c.settle_entry.new.settled written first xs c.loop-at.at c.entry.result.now c.loop-at.page c.settle_entry.result Zeros
    c.loop-at-test.true (omega arith) c.entry.ensures (c.loop-at.invariant written h) c.settle_entry.ensures c.in-Zeros.is in
    settled-ends c.args.bytes.now c.settle_entry.new.settled written (λ o. 0) c.rest_is.result turned c.rest_is.ensures

pub returns-in-Wrong : goal.returns-in-Wrong
returns-in-Wrong c =
    let xs = c.args.trace.now.entries in
    let first = first_of (reverse xs) in
    λ written h.
    settled-turn c.args.bytes.now c.loop-at.settled c.settle_entry.new.settled written first xs c.loop-at.at c.entry.result.now c.loop-at.page c.settle_entry.result Wrong
    c.loop-at-test.true (omega arith) c.entry.ensures (c.loop-at.invariant written h) c.settle_entry.ensures c.in-Wrong.is

pub loop-at-preserved : goal.loop-at-preserved
loop-at-preserved c =
    let xs = c.args.trace.now.entries in
    let first = first_of (reverse xs) in
    λ written h.
    settled-turn c.args.bytes.now c.loop-at.settled c.settle_entry.new.settled written first xs c.loop-at.at c.entry.result.now c.loop-at.page c.settle_entry.result (Before c.in-Before.other)
    c.loop-at-test.true (omega arith) c.entry.ensures (c.loop-at.invariant written h) c.settle_entry.ensures c.in-Before.is

pub returns : goal.returns
returns c =
    let xs = c.args.trace.now.entries in
    let first = first_of (reverse xs) in
    λ written h.
    let settled = settled-first c.args.bytes.now c.loop-at.settled written first xs c.loop-at.at c.loop-at.page c.loop-at-test.false (c.loop-at.invariant written h) in
    settled-ends c.args.bytes.now c.loop-at.settled written (λ o. first (spot_in c.loop-at.page o)) c.rest_is_first.result settled c.rest_is_first.ensures
