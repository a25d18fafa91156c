use Rattle.std.proofs.Common.{arith}
use Rattle.scenario_lines.proofs.RoundingLemmas.{value_more}
use Rattle.scenario_lines.proofs.rounded.add_values.Goals as goal

pub loop-key-preserved : goal.loop-key-preserved
loop-key-preserved c = record {
  keys = c.loop-key.invariant.keys;
  all = value_more c.args.page.bytes c.loop-key.rounded.items c.add_value.new.rounded.items c.args.words.now c.loop-key.key _ _ (omega arith) c.in_ok-add_value.ensures c.loop-key.invariant.all;
}
