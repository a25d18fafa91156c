use Rattle.std.proofs.Common.{◌∙◌, sym}
use Rattle.text_forms.proofs.Numerals.{parsed, signed}
use Rattle.text_forms.proofs.number.long_number_of.Goals as goal

pub returns-then-begins_with_plus : goal.returns-then-begins_with_plus
returns-then-begins_with_plus c = signed 64 c.args.word.now (sym c.begins_with_plus.ensures ∙ c.if-begins_with_plus.true)

pub returns : goal.returns
returns c = c.ok.ensures.value ∙ parsed 64 c.args.word.now c.parse.result (sym c.begins_with_plus.ensures ∙ c.if-begins_with_plus.false) c.parse.ensures.value.0
