use Rattle.std.proofs.Common.{refl, ap, sym, ◌∙◌, List}
use Rattle.std.specs.Option.{option_map}
use Rattle.std.specs.List.{find}
use Rattle.std.specs.String.{string_bytes}
use Rattle.machine.specs.declared.command.Reply.{Reply as Told_by}
use Rattle.division.specs.Reasons.{refuses, refusal_text}
use Rattle.division.proofs.RowLemmas.{take_next}
use Rattle.division.proofs.TrialLemmas.{there, accepts-more, refuses-line}
use Rattle.division.proofs.trial.try_lines.Goals as goal

pub returns-in-Some : goal.returns-in-Some
returns-in-Some c = record {
  accepts = tt;
  why =
      refuses-line c.args.run.now c.loop-place.run c.carry_line.new.run c.args.setup.now c.loop-place.place c.index-setup-place.result c.loop-place.said.items c.carry_line.new.said.items _ (string_bytes c.in-Some.refusal) refl
      (there _ _ _ c.loop-place-test.true c.index-setup-place.is) c.loop-place.invariant.0 c.loop-place.invariant.1 c.in_ok-carry_line.ensures
      (ap (option_map string_bytes) (sym c.in-Some.is) ∙ c.in_ok-refusal.ensures ∙ ap (λ (l : List Told_by). option_map refusal_text (find refuses l)) c.deref.ensures.value);
}

pub loop-place-preserved : goal.loop-place-preserved
loop-place-preserved c = (
  accepts-more c.args.run.now c.loop-place.run c.carry_line.new.run _ _ c.index-setup-place.result c.loop-place.said.items c.carry_line.new.said.items
      (take_next c.args.setup.now c.loop-place.place c.index-setup-place.result c.loop-place-test.true c.index-setup-place.is) c.loop-place.invariant.0 c.loop-place.invariant.1 c.in_ok-carry_line.ensures
      (ap (option_map string_bytes) (sym c.in_default.is) ∙ c.in_ok-refusal.ensures ∙ ap (λ (l : List Told_by). option_map refusal_text (find refuses l)) c.deref.ensures.value),
  c.clear.ensures.items,
)
