use Rattle.std.proofs.Common.{◌≡◌, ◌∙◌, ◌++◌, ℕ, List, sym, ap, encode_utf8}
use Rattle.std.proofs.lemmas.List.{nil_from_length}
use Rattle.std.proofs.lemmas.Str.{IsUtf8-past_char}
use Rattle.std.specs.Str.Iter.{chars_rest}
use Rattle.std.specs.String.{string_bytes}
use Rattle.scenario_reports.proofs.NoteLemmas.{character_more, word_more, last_word}
use Rattle.scenario_reports.proofs.notes.words_of.Goals as goal

pub loop-character-preserved-then-not-reading : goal.loop-character-preserved-then-not-reading
unfolding lib.Utf8.encode
loop-character-preserved-then-not-reading c =
    let held = c.loop-character.invariant in
    let cut = c.in-Some.ensures.steps.0 in (
      IsUtf8-past_char _ _ c.in-Some.character held.0 cut,
      word_more c.loop-character.words.items c.push.new.self.items c.whole.result (string_bytes c.loop-character.reading.source) (string_bytes c.new-reading-then-not-reading.result.source) _ _ _ c.in_ok-push.ensures.items c.whole.ensures
          c.new-reading-then-not-reading.ensures (cut ∙ ap (λ (k : ℕ). encode_utf8 k ++ chars_rest c.next.new.self) c.if-character-eq32.true) held.1,
    )

pub loop-character-preserved : goal.loop-character-preserved
loop-character-preserved c =
    let held = c.loop-character.invariant in
    let cut = c.in-Some.ensures.steps.0 in (
      IsUtf8-past_char _ _ c.in-Some.character held.0 cut,
      character_more _ (string_bytes c.loop-character.reading.source) (string_bytes c.add.new.self.source) _ _ _ _ c.in_ok-add.ensures cut held.1,
    )

pub returns : goal.returns
returns c = last_word c.loop-character.words.items c.push-2.new.self.items c.whole-2.result (string_bytes c.loop-character.reading.source) _ _ c.in_ok-push-2.ensures.items c.whole-2.ensures (nil_from_length _ c.in-None.ensures.steps.0.0) c.loop-character.invariant.1
