use Rattle.std.proofs.lemmas.Str.{IsUtf8-past_char, chars_past_char}
use Rattle.std.proofs.StrCases.{chars_of_empty}
use Rattle.std.specs.String.{string_bytes}
use Rattle.scenario_words.specs.Words.{without_quotes}
use Rattle.scenario_words.proofs.FillLemmas.{one_unquoted, all_unquoted}
use Rattle.scenario_words.proofs.word.without_quotes.Goals as goal

pub loop-character-preserved : goal.loop-character-preserved
loop-character-preserved c =
    let held = c.loop-character.invariant in
    let cut = c.in-Some.ensures.steps.0 in (
      IsUtf8-past_char _ _ c.in-Some.character held.0 cut,
      one_unquoted (string_bytes c.loop-character.text) (string_bytes c.add_unquoted.new.text) c.in-Some.character _ _ (without_quotes c.args.source.now) (chars_past_char _ _ c.in-Some.character held.0 cut) c.in_ok-add_unquoted.ensures held.1,
    )

pub returns : goal.returns
returns c = all_unquoted (string_bytes c.loop-character.text) _ (without_quotes c.args.source.now) (chars_of_empty _ c.in-None.ensures.steps.0.0) c.loop-character.invariant.1
