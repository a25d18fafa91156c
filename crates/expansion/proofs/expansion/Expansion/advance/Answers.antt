use Rattle.std.proofs.Common.{◌≡◌, None, Some, length, sym, ap, refl, ◌∙◌, arith}
use Rattle.std.proofs.lemmas.List.{nil_from_length}
use Rattle.std.proofs.lemmas.Result.{err_from_is_err_and}
use Rattle.expansion.specs.declared.expansion.Expansion.{Expansion}
use Rattle.expansion.specs.Frames.{FrameNow}
use Rattle.expansion.specs.ToCome.{line_in, still, told_last, is_said, from_frame}
use Rattle.expansion.proofs.StillLemmas.{is_quiet_there, pops, popped_idle, no_block}
use Rattle.expansion.proofs.ItemLemmas.{work_fails}
use Rattle.expansion.proofs.expansion.Expansion.advance.Goals as goal
use Rattle.expansion.proofs.expansion.Expansion.advance.Goals.{in-None+in_ok-end_round-in-None, in-Some-line_in+in_ok-open_line-in-Some-line_in}

pub returns-in_default : goal.returns-in_default
returns-in_default c =
    let x = c.args.self.now in
    let empty : length x.frames.items ≡ 0 = omega (arith, c.in_default.ensures.cases.0, x.frames.ok.0) in
    record { steps = λ said i. (x.scene, no_block x i (is_quiet_there x said) (nil_from_length x.frames.items empty)) }

pub returns-in_err-end_round-in-None : goal.returns-in_err-end_round-in-None
returns-in_err-end_round-in-None c =
    let x = c.args.self.now in
    let f = c.in-Some.frame in
    let y : Expansion = record x { frames = c.pop.new.self } in
    let p = err_from_is_err_and c.from_residual.result c.from_residual.ensures.1 in
    let none : line_in x.lines.now f.at f.end ≡ None = ap (λ (g : FrameNow). line_in x.lines.now g.at g.end) (sym c.frame.view_is) ∙ sym c.in-None.ensures in
    record {
      steps = λ said i.
          let q = is_quiet_there x said in
          let same : still x ≡ from_frame f y = pops x y f i q c.in-Some.ensures.items refl in
          rw (p.1, p.2) (work_fails (still x) (from_frame f y) (still c.end_round.new.self) (still c.end_round.new.self) (told_last c.end_round.new.self) c.in_err-end_round-in-None.field-0.0 same
          (c.in_err-end_round-in-None.ensures.works (sym (ap is_said same) ∙ said) q (popped_idle x c.pop.new.self i) none));
    }

pub returns-in_err-open_line-in-Some-line_in : goal.returns-in_err-open_line-in-Some-line_in
returns-in_err-open_line-in-Some-line_in c =
    let x = c.args.self.now in
    let f = c.in-Some.frame in
    let y : Expansion = record x { frames = c.pop.new.self } in
    let p = err_from_is_err_and c.from_residual-in_err-open_line-in-Some-line_in.result c.from_residual-in_err-open_line-in-Some-line_in.ensures.1 in
    let some : line_in x.lines.now f.at f.end ≡ Some c.in-Some-line_in.line.now = ap (λ (g : FrameNow). line_in x.lines.now g.at g.end) (sym c.frame.view_is) ∙ sym c.in-Some-line_in.ensures in
    record {
      steps = λ said i.
          let q = is_quiet_there x said in
          let same : still x ≡ from_frame f y = pops x y f i q c.in-Some.ensures.items refl in
          rw (p.1, p.2) (work_fails (still x) (from_frame f y) (still c.open_line.new.self) (still c.open_line.new.self) (told_last c.open_line.new.self) c.in_err-open_line-in-Some-line_in.field-0.0 same
          (c.in_err-open_line-in-Some-line_in.ensures.works (sym (ap is_said same) ∙ said) q (popped_idle x c.pop.new.self i) some));
    }

pub returns : goal.returns
returns c =
    let x = c.args.self.now in
    let f = c.in-Some.frame in
    let y : Expansion = record x { frames = c.pop.new.self } in
    let next : line_in x.lines.now f.at f.end ≡ line_in x.lines.now c.frame.inside.at c.frame.inside.end = ap (λ (g : FrameNow). line_in x.lines.now g.at g.end) (sym c.frame.view_is) in
    elim c.match-line_in.branch [
      | in-None+in_ok-end_round-in-None w ↦ record {
        steps = λ said i.
            let q = is_quiet_there x said in
            let same : still x ≡ from_frame f y = pops x y f i q c.in-Some.ensures.items refl in
            ap still w.self-is ∙ w.in_ok-end_round-in-None.ensures.works (sym (ap is_said same) ∙ said) q (popped_idle x c.pop.new.self i) (next ∙ sym w.in-None.ensures) ∙ sym same;
      }
      | in-Some-line_in+in_ok-open_line-in-Some-line_in w ↦ record {
        steps = λ said i.
            let q = is_quiet_there x said in
            let same : still x ≡ from_frame f y = pops x y f i q c.in-Some.ensures.items refl in
            ap still w.self-is ∙ w.in_ok-open_line-in-Some-line_in.ensures.works (sym (ap is_said same) ∙ said) q (popped_idle x c.pop.new.self i) (next ∙ sym w.in-Some-line_in.ensures) ∙ sym same;
      }
    ]
