use Rattle.std.proofs.Common.{sym, ◌∙◌}
use Rattle.expansion.specs.ToCome.{known}
use Rattle.simulation.proofs.NoteLemmas.{expect_judged}
use Rattle.simulation.proofs.run.Run.note.Goals as goal

pub returns-then-is_at : goal.returns-then-is_at
returns-then-is_at g c = record {
  judged = expect_judged c.args.page.bytes (known c.args.expansion.now) c.args.text.now c.args.stepper.now.past.state c.in_ok-words.words.items c.as_slice-words.result.now c.in_ok-expect.field-0 (c.in_ok-words.ensures ∙ c.as_str.ensures)
      c.as_slice-words.ensures.value (sym c.is_at.ensures ∙ c.if-is_at.true) c.in_ok-expect.ensures.met;
}
