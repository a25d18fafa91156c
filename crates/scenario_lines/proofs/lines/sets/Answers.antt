use Rattle.std.proofs.Common.{[], arith}
use Rattle.std.proofs.lemmas.Result.{err_from_is_err_and}
use Rattle.scenario_words.specs.Faults.{as_is}
use Rattle.scenario_lines.specs.declared.burst.Burst.{Burst}
use Rattle.scenario_lines.proofs.SceneLemmas.{same_fault}
use Rattle.scenario_lines.proofs.LineLemmas.{set_more, set_faulty, sets_ended}
use Rattle.scenario_lines.proofs.lines.sets.Goals as goal

pub loop-key-preserved : goal.loop-key-preserved
loop-key-preserved c = record {
  keys = c.loop-key.invariant.keys;
  all = set_more c.args.scene.now c.args.words.now c.args.path.now c.loop-key.key _ c.in_ok-set_at.field-0 c.loop-key.bursts.items c.push.new.self.items _ (omega arith) c.in_ok-set_at.ensures c.in_ok-push.ensures.items c.loop-key.invariant.all;
}

pub returns-in_err-set_at : goal.returns-in_err-set_at
returns-in_err-set_at c =
    let p = err_from_is_err_and c.from_residual-in_err-set_at.result c.from_residual-in_err-set_at.ensures.1 in
    rw (p.1, p.2) (same_fault {T = Burst} {V = Unit {0}} as_is (λ _. []) c.in_err-set_at.field-0.0 _ _ (λ f e. set_faulty c.args.scene.now c.args.words.now c.args.path.now c.loop-key.key _ c.loop-key.bursts.items f _ (omega arith) c.loop-key.invariant.all e) c.in_err-set_at.ensures)

pub returns : goal.returns
returns c = sets_ended c.args.scene.now c.args.words.now c.args.path.now c.loop-key.key _ c.loop-key.bursts.items _ c.loop-key-test.false c.loop-key.invariant.all
