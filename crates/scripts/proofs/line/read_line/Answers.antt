use Rattle.std.proofs.Common.{◌≡◌, ℕ, true, List, ◌++◌, take, ap, ◌∙◌}
use Rattle.std.specs.Str.{is_utf8}
use Rattle.scripts.specs.Context.{around}
use Rattle.scripts.specs.Words.{words_of}
use Rattle.scripts.proofs.LongLines.{read_kept}
use Rattle.scripts.proofs.line.read_line.Goals as goal

pub returns : goal.returns
returns c =
    let line = c.args.line.now in
    let context = c.args.context.now in
    let text : is_utf8 line ≡ true = c.in-Some.ensures.0 in
    let kept : c.as_slice.result.now ≡ take 8 (words_of line) =
    c.as_slice.ensures.value ∙ c.add_words.ensures ∙ ap (λ (ws : List (List ℕ)). take 8 (ws ++ words_of c.in-Some.text.now)) c.new-words.ensures ∙ ap (λ (bs : List ℕ). take 8 (words_of bs)) c.in-Some.ensures.1 in
    rw text (read_kept context.mode (around context) context.config.files c.read_words.result (words_of line) (rw kept at c.read_words.ensures))
