use Rattle.std.proofs.Common.{◌≡◌, ℕ, Result, Ok, Err, sym, ◌∙◌}
use Rattle.std.specs.Result.{IfOk}
use Rattle.std.specs.Str.Lines.{lines}
use Rattle.scripts.specs.Header.{header_frames}
use Rattle.scripts.proofs.HeaderLemmas.{past_other, at_frames}
use Rattle.scripts.proofs.header.header_frames.Goals as goal

pub loop-rest-preserved : goal.loop-rest-preserved
loop-rest-preserved c =
    past_other (header_frames (lines c.args.text.now)) (lines c.loop-rest.rest.now) c.first_line.result.0.now (lines c.first_line.result.1.now) c.part_of.result
    c.loop-rest.invariant c.first_line.ensures.lines c.part_of.ensures c.in-Other.is

-- what is one of two equal numbers is the other
is_other : {E : Type 0} (r : Result ℕ E) (m n : ℕ) → m ≡ n → IfOk r (λ k. k ≡ n) → IfOk r (λ k. k ≡ m)
is_other (Ok k) m n e h = h ∙ sym e
is_other (Err x) m n e h = h

pub returns-in-Frames : goal.returns-in-Frames
returns-in-Frames c =
    is_other c.frames_asked.result _ _
    (at_frames (header_frames (lines c.args.text.now)) (lines c.loop-rest.rest.now) c.first_line.result.0.now (lines c.first_line.result.1.now) c.part_of.result
    c.loop-rest.invariant c.first_line.ensures.lines c.part_of.ensures c.in-Frames.is)
    c.frames_asked.ensures
