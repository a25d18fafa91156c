use Rattle.std.proofs.Common.{◌≡◌, true, List, ℕ, take, ap, ◌∙◌}
use Rattle.std.specs.Str.{is_utf8}
use Rattle.scripts.specs.Words.{words_of}
use Rattle.division.specs.Said.{words_go}
use Rattle.division.proofs.GoLemmas.{kept}
use Rattle.division.proofs.said.line_goes.Goals as goal

pub returns : goal.returns
returns c =
    let line = c.args.line.now in
    let text : is_utf8 line ≡ true = c.in-Some.ensures.0 in
    rw text (c.words_go.ensures ∙ ap words_go (c.as_slice.ensures.value ∙ c.words_of-words.ensures ∙ ap (λ (bs : List ℕ). take 8 (words_of bs)) c.in-Some.ensures.1) ∙ kept (words_of line))
