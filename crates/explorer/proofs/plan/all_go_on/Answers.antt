use Rattle.std.proofs.Common.{◌+◌, ◌∙◌, arith}
use Rattle.explorer.proofs.CarriedLemmas.{goes_all-more}
use Rattle.explorer.proofs.plan.all_go_on.Goals as goal

pub loop-place-preserved : goal.loop-place-preserved
loop-place-preserved c = record {
  counted = c.go_on.ensures.counted ∙ c.loop-place.invariant.counted;
  goes = goes_all-more c.args.rows.now c.loop-place.place c.args.run.now c.loop-place.run c.go_on.new.run c.args.begun.now.items c.loop-place.begun.items c.go_on.new.begun.items c.args.said.now.items c.loop-place.said.items c.go_on.new.said.items
      c.loop-place.invariant.goes c.in_ok-go_on.ensures.goes (c.loop-place.place + 1) (omega arith);
}
