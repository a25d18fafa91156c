use Rattle.std.proofs.Common.{◌≡◌, Vec, sym, ap}
use Rattle.std.specs.Global.{Global}
use Rattle.std.proofs.lemmas.Result.{err_from_is_err_and}
use Rattle.scenarios.specs.declared.lines.LineKind.TheVariants as line
use Rattle.scenarios.specs.Lines.{opens_block}
use Rattle.scenario_words.specs.Words.{FilledWord}
use Rattle.expansion.specs.Frames.{FrameNow}
use Rattle.expansion.proofs.StillLemmas.{quiet_open, first_inside, place_behind, pushes, above_block, above_line, words_work, repeat_works, together_works}
use Rattle.expansion.proofs.LineLemmas.{opens_none, line_works}
use Rattle.expansion.proofs.expansion.Expansion.open_line.Goals as goal

pub returns-in_err-words : goal.returns-in_err-words
returns-in_err-words c =
    let p = err_from_is_err_and c.from_residual.result c.from_residual.ensures.1 in
    record { works = λ said q i e. rw (p.1, p.2) (words_work c.args.self.now _ c.args.frame c.args.line.now (Vec FilledWord Global) (λ words. words.items) c.in_err-words.field-0.0 e c.in_err-words.ensures) }

pub returns-in-Repeat : goal.returns-in-Repeat
returns-in-Repeat c =
    let x = c.args.self.now in
    let f = c.args.frame in
    let l = c.args.line.now in
    let ws = c.in_ok-words.words.items in
    let at : c.frame.inside.at ≡ f.at = ap (λ (g : FrameNow). g.at) c.frame.view_is in
    let end : c.frame.inside.end ≡ f.end = ap (λ (g : FrameNow). g.end) c.frame.view_is in
    let kind : l.kind ≡ line.Repeat = sym c.in-Repeat.ensures in
    let above = above_block (opens_block l.kind) c.could_be_refused-refusable.result _ c.could_be_refused-refusable.ensures (ap opens_block kind) in
    record {
      works = λ said q i e.
          let first = first_inside x.lines.now f l c.frame.inside.at c.frame.inside.end c.saturating_add-begin.result e at end c.saturating_add-begin.ensures c.place_behind-behind.ensures.within in
          let place = place_behind x.lines.now f l c.frame.inside.at c.frame.inside.end c.inside.result c.place_behind-behind.result e at end c.inside.ensures c.place_behind-behind.ensures.behind in
          let pushed = pushes x.frames.items c.push.new.self.items f c.moved.result l c.place_behind-behind.result c.could_be_refused-refusable.result _ c.in_ok-push.ensures.items c.moved.ensures place above in
          repeat_works x c.open_repeat.new.self c.push.new.self c.number-self.result f l ws c.saturating_add-begin.result c.place_behind-behind.result c.open_repeat.result i q e kind c.in_ok-words.ensures first place pushed c.open_repeat.ensures.frames
          c.open_repeat.ensures.others said;
    }

pub returns-in-Together : goal.returns-in-Together
returns-in-Together c =
    let x = c.args.self.now in
    let f = c.args.frame in
    let l = c.args.line.now in
    let ws = c.in_ok-words.words.items in
    let at : c.frame.inside.at ≡ f.at = ap (λ (g : FrameNow). g.at) c.frame.view_is in
    let end : c.frame.inside.end ≡ f.end = ap (λ (g : FrameNow). g.end) c.frame.view_is in
    let kind : l.kind ≡ line.Together = sym c.in-Together.ensures in
    let above = above_block (opens_block l.kind) c.could_be_refused-refusable.result _ c.could_be_refused-refusable.ensures (ap opens_block kind) in
    record {
      works = λ said q i e.
          let first = first_inside x.lines.now f l c.frame.inside.at c.frame.inside.end c.saturating_add-begin.result e at end c.saturating_add-begin.ensures c.place_behind-behind.ensures.within in
          let place = place_behind x.lines.now f l c.frame.inside.at c.frame.inside.end c.inside.result c.place_behind-behind.result e at end c.inside.ensures c.place_behind-behind.ensures.behind in
          let pushed = pushes x.frames.items c.push.new.self.items f c.moved.result l c.place_behind-behind.result c.could_be_refused-refusable.result _ c.in_ok-push.ensures.items c.moved.ensures place above in
          together_works x c.open_together.new.self c.push.new.self c.number-self.result f l ws c.as_slice-in-Together.result.now c.saturating_add-begin.result c.place_behind-behind.result c.open_together.result i q e kind c.in_ok-words.ensures first place pushed
          c.as_slice-in-Together.ensures.value c.open_together.ensures.frames (c.open_together.ensures.others (quiet_open x q));
    }

pub returns-in-Header : goal.returns-in-Header
returns-in-Header c =
    let x = c.args.self.now in
    let f = c.args.frame in
    let l = c.args.line.now in
    let w = c.in_ok-words.words in
    let at : c.frame.inside.at ≡ f.at = ap (λ (g : FrameNow). g.at) c.frame.view_is in
    let end : c.frame.inside.end ≡ f.end = ap (λ (g : FrameNow). g.end) c.frame.view_is in
    let was : c.frame.inside.above ≡ f.above = ap (λ (g : FrameNow). g.above) c.frame.view_is in
    let opens = opens_none c.kind.result l.kind c.kind.ensures c.in-Header.is in
    let above = above_line (opens_block l.kind) c.could_be_refused-refusable.result c.as_slice.result.now w.items c.could_be_refused-refusable.ensures opens c.as_slice.ensures.value in
    record {
      works = λ said q i e.
          let place = place_behind x.lines.now f l c.frame.inside.at c.frame.inside.end c.inside.result c.place_behind-behind.result e at end c.inside.ensures c.place_behind-behind.ensures.behind in
          let pushed = pushes x.frames.items c.push.new.self.items f c.moved.result l c.place_behind-behind.result c.could_be_refused-refusable.result _ c.in_ok-push.ensures.items c.moved.ensures place above in
          line_works x c.work_line.new.self c.push.new.self c.number-self.result f l w c.frame.inside.above c.work_line.result i q e opens c.in_ok-words.ensures pushed c.number-self.ensures was c.work_line.ensures.lists c.work_line.ensures.queued
          c.work_line.ensures.members c.work_line.ensures.others;
    }
