use Rattle.std.proofs.Common.{◌≡◌, length, sym, ◌∙◌, arith, take_all}
use Rattle.std.proofs.lemmas.List.{take-append-le}
use Rattle.std.proofs.lemmas.Bool.{eqb-true}
use Rattle.scripts.proofs.Splits.{word_in}
use Rattle.scripts.proofs.words.add_part.Goals as goal

pub returns-then-is_full : goal.returns-then-is_full
returns-then-is_full c =
    let words = c.args.words.now.items in
    let full : length words ≡ 8 = eqb-true _ _ (sym c.is_full.ensures.value ∙ c.if-is_full.true) in
    sym (take-append-le 8 words (word_in c.args.part.now) (omega arith) ∙ take_all 8 words (omega arith))
