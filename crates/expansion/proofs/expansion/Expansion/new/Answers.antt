use Rattle.std.proofs.Common.{◌≡◌, ◌∷◌, [], List, true, false, length, refl, sym, ap, ◌∙◌}
use Rattle.std.specs.Prelude.{◌&&◌, ◌||◌, not, ◌==◌}
use Rattle.scenarios.specs.Lines.{TextLine}
use Rattle.scenario_lines.specs.HeaderLines.{header_read}
use Rattle.scenario_lines.specs.Scene.{SceneNow}
use Rattle.expansion.specs.declared.frames.Block.TheVariants as block
use Rattle.expansion.specs.Frames.{FrameNow, once}
use Rattle.expansion.specs.Together.{PlacedNow}
use Rattle.expansion.proofs.ItemLemmas.{begins}
use Rattle.expansion.proofs.expansion.Expansion.new.Goals as goal

pub returns : goal.returns
returns c =
    let ls = c.args.scenario.now.lines.items in
    let begin = c.in_ok-begin.begin in
    let scope = c.values.result in
    let lines : c.as_slice-lines.result.now ≡ ls = c.as_slice-lines.ensures.value in
    let read = ap (λ (s : SceneNow). header_read s ls) (sym c.new-scene.ensures) ∙ ap (λ (xs : List TextLine). header_read c.new-scene.result xs) (sym lines) ∙ c.in_ok-begin.ensures in
    record {
      begins = begins _ ls c.args.settings.items begin scope
          (ap (λ (ns : List PlacedNow). true && not (not (length ns == 0) || false || false)) c.new-3.ensures.items)
          (record { together = refl; current = refl; queue = c.new-2.ensures.items })
          refl lines c.new.ensures.items
          (c.in_ok-frames.ensures.items ∙ ap (λ (f : FrameNow). f ∷ []) c.once-frame.ensures ∙ ap (λ (xs : List TextLine). once block.All begin (length xs) scope ∷ []) lines)
          read;
      header = (begin, read);
    }
