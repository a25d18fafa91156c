use Rattle.std.proofs.Common.{◌<◌, ◌≤◌, length, reverse, arith}
use Rattle.machine.specs.FirstBytes.{first_of}
use Rattle.trace.proofs.AuditLemmas.{passes-more, passes-all, first-wrong}
use Rattle.trace.proofs.auditing.first_wrong.Goals as goal

pub returns-then-not-is_good : goal.returns-then-not-is_good
returns-then-not-is_good c =
    let len = c.len-at-end.ensures in
    let test = c.loop-at-test.true in
    let within : c.loop-at.at < length c.args.trace.now.entries = omega arith in
    record {
      none = tt;
      some = first-wrong c.args.trace.now.entries c.loop-at.at c.entry.result.now within c.entry.ensures c.loop-at.invariant c.if-not-is_good.ensures;
    }

pub loop-at-preserved : goal.loop-at-preserved
loop-at-preserved c =
    let xs = c.args.trace.now.entries in
    let len = c.len-at-end.ensures in
    let test = c.loop-at-test.true in
    let within : c.loop-at.at < length c.args.trace.now.entries = omega arith in
    passes-more (first_of (reverse xs)) xs c.loop-at.at c.entry.result.now within c.entry.ensures c.loop-at.invariant c.if-not-is_good.ensures

pub returns : goal.returns
returns c =
    let xs = c.args.trace.now.entries in
    let len = c.len-at-end.ensures in
    let test = c.loop-at-test.false in
    let all : length c.args.trace.now.entries ≤ c.loop-at.at = omega arith in
    record {
      none = passes-all (first_of (reverse xs)) xs c.loop-at.at all c.loop-at.invariant;
      some = tt;
    }
