use Rattle.std.proofs.Common.{◌∙◌, refl, arith}
use Rattle.scenario_lines.specs.Tasks.{nothing_written}
use Rattle.scenario_lines.proofs.TaskLemmas.{one_more, all_padded}
use Rattle.scenario_lines.proofs.tasks.reserve.Goals as goal

pub loop-preserved : goal.loop-preserved
loop-preserved c = record {
  from = omega arith;
  to = omega arith;
  added = one_more c.args.standings.now.items c.loop.standings.items c.push.new.self.items c.loop.counter nothing_written c.loop.invariant.from c.loop.invariant.added (c.in_ok-push.ensures.items ∙ rw c.new.ensures.items refl);
}

pub returns : goal.returns
returns c = all_padded c.args.standings.now.items c.loop.standings.items c.loop.counter c.args.many nothing_written c.loop.invariant.from c.loop.invariant.to c.loop-test.false c.loop.invariant.added
