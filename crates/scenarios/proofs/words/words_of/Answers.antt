use Rattle.std.proofs.Common.{length, sym, ◌∙◌, chars}
use Rattle.std.proofs.lemmas.Str.{IsUtf8-past_char, chars_past_char}
use Rattle.std.proofs.StrCases.{chars_of_empty}
use Rattle.scenarios.specs.Reading.{line_read}
use Rattle.scenarios.proofs.WordLemmas.{comment_ends, read_goes_on, rest_ends, counted, gives_same}
use Rattle.scenarios.proofs.words.words_of.Goals as goal

pub returns-then-ends_at : goal.returns-then-ends_at
returns-then-ends_at c =
    let held = c.loop-character.invariant in
    let step = chars_past_char _ _ c.in-Some.character held.0 c.in-Some.ensures.steps.0 in
    gives_same _ c.into_words.result _ _ (comment_ends (line_read c.loop-character.reader) c.in-Some.character _ _ (chars c.args.line.now) step (sym c.ends_at.ensures ∙ c.if-ends_at.true) held.2) c.into_words.ensures

pub loop-character-preserved : goal.loop-character-preserved
loop-character-preserved c =
    let held = c.loop-character.invariant in
    let step = chars_past_char _ _ c.in-Some.character held.0 c.in-Some.ensures.steps.0 in (
      IsUtf8-past_char _ _ c.in-Some.character held.0 c.in-Some.ensures.steps.0,
      counted (line_read c.loop-character.reader) (line_read c.add.new.self) c.in-Some.character (length c.args.line.now) _ _ c.in_ok-add.ensures c.in-Some.ensures.steps.0 held.1,
      read_goes_on (line_read c.loop-character.reader) (line_read c.add.new.self) c.in-Some.character _ _ (chars c.args.line.now) step (sym c.ends_at.ensures ∙ c.if-ends_at.false) c.in_ok-add.ensures held.2,
    )

pub returns : goal.returns
returns c = gives_same _ c.into_words-2.result _ _ (rest_ends (line_read c.loop-character.reader) _ (chars c.args.line.now) (chars_of_empty _ c.in-None.ensures.steps.0.0) c.loop-character.invariant.2) c.into_words-2.ensures
