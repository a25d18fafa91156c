use Rattle.std.proofs.Common.{◌≡◌, ◌-◌, ◌+◌, length, drop, ap, sym, ◌∙◌, length-drop, arith}
use Rattle.scenario_lines.proofs.SceneLemmas.{one_gone}
use Rattle.scenario_lines.proofs.scene.keep_oldest.Goals as goal

pub remove-newest-requires : goal.remove-newest-requires
remove-newest-requires c = omega (arith, c.loop.values.ok.0, ap length c.loop.invariant.left, length-drop (c.loop.counter - c.args.many) c.args.values.now.items)

pub loop-preserved : goal.loop-preserved
loop-preserved c =
    let gone = c.loop.counter - c.args.many in
    let next : c.loop.counter + 1 - c.args.many ≡ gone + 1 = omega arith in
    record {
      end = c.loop.invariant.end;
      from = omega arith;
      to = omega arith;
      left = one_gone c.args.values.now.items c.remove-newest.new.self.items gone c.remove-newest.result (omega arith) (rw (← c.loop.invariant.left) c.remove-newest.ensures.items) ∙ sym (ap (λ k. drop k c.args.values.now.items) next);
    }

pub returns : goal.returns
returns c = c.loop.invariant.left ∙ ap (λ k. drop k c.args.values.now.items) (omega arith)
