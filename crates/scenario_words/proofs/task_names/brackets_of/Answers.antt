use Rattle.std.proofs.Common.{refl}
use Rattle.std.proofs.lemmas.Str.{IsUtf8-past_char, chars_past_char}
use Rattle.std.proofs.StrCases.{chars_of_empty}
use Rattle.scenario_words.specs.BracketReading.{reading}
use Rattle.scenario_words.specs.TaskNames.{name_parts}
use Rattle.scenario_words.proofs.BracketLemmas.{goes_on, stops, ends}
use Rattle.scenario_words.proofs.task_names.brackets_of.Goals as goal

pub loop-character-preserved : goal.loop-character-preserved
loop-character-preserved c =
    let held = c.loop-character.invariant in
    let cut = c.in-Some.ensures.steps.0 in (
      IsUtf8-past_char _ _ c.in-Some.character held.0 cut,
      goes_on (reading c.loop-character.brackets) (reading c.add.new.self) c.in-Some.character _ _ (name_parts c.args.word.now) c.in_ok-add.field-0 (chars_past_char _ _ c.in-Some.character held.0 cut) c.in_ok-add.ensures c.if-not-branch.false held.1,
    )

pub returns-then-not-branch : goal.returns-then-not-branch
returns-then-not-branch c =
    let held = c.loop-character.invariant in
    let cut = c.in-Some.ensures.steps.0 in
    rw c.fault.ensures (refl, stops (reading c.loop-character.brackets) (reading c.add.new.self) c.in-Some.character _ _ (name_parts c.args.word.now) c.in_ok-add.field-0 (chars_past_char _ _ c.in-Some.character held.0 cut) c.in_ok-add.ensures c.if-not-branch.true held.1)

pub returns : goal.returns
returns c = ends (reading c.loop-character.brackets) _ _ (chars_of_empty _ c.in-None.ensures.steps.0.0) c.loop-character.invariant.1
