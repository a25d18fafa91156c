use Rattle.std.proofs.Common.{arith}
use Rattle.scenario_lines.proofs.TaskLemmas.{one_more, all_padded}
use Rattle.scenario_lines.proofs.tasks.fill.Goals as goal

pub loop-preserved : goal.loop-preserved
loop-preserved c = record {
  from = omega arith;
  to = omega arith;
  added = one_more c.args.places.now.items c.loop.places.items c.push.new.self.items c.loop.counter 0 c.loop.invariant.from c.loop.invariant.added c.in_ok-push.ensures.items;
}

pub returns : goal.returns
returns c = all_padded c.args.places.now.items c.loop.places.items c.loop.counter c.args.many 0 c.loop.invariant.from c.loop.invariant.to c.loop-test.false c.loop.invariant.added
