use Rattle.std.proofs.Common.{ap, ◌∙◌}
use Rattle.std.proofs.lemmas.Result.{err_from_is_err_and}
use Rattle.expansion.specs.ToCome.{still, is_said}
use Rattle.expansion.proofs.ItemLemmas.{step_fails}
use Rattle.expansion.proofs.expansion.Expansion.next.Goals as goal

pub returns-in_err-item : goal.returns-in_err-item
returns-in_err-item c =
    let p = err_from_is_err_and c.from_residual.result c.from_residual.ensures.1 in
    record {
      comes = λ said.
          let same = c.loop.invariant.same said in
          rw (p.1, p.2) (step_fails (still c.args.self.now) (still c.loop.self) _ _ c.in_err-item.field-0.0 same (c.in_err-item.ensures.steps (ap is_said same ∙ said)));
    }
