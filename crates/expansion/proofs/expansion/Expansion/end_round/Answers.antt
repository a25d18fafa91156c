use Rattle.std.proofs.Common.{Option, sym, ap, ◌∙◌}
use Rattle.expansion.specs.Frames.{FrameNow}
use Rattle.expansion.specs.Together.{TogetherNow}
use Rattle.expansion.specs.ToCome.{still}
use Rattle.expansion.proofs.StillLemmas.{all_ended, together_ended, repeat_end_works}
use Rattle.expansion.proofs.expansion.Expansion.end_round.Goals as goal

pub returns-in-All : goal.returns-in-All
returns-in-All c = record { works = λ said q i e. all_ended c.args.self.now c.args.frame i q e (sym (ap (λ (f : FrameNow). f.block) c.frame.view_is) ∙ c.in-All.is) }

pub returns-in-Together : goal.returns-in-Together
returns-in-Together c =
    let x = c.args.self.now in
    record {
      works = λ said q i e.
          ap (λ (o : Option TogetherNow). still (record x { together = o; gathered = c.take.new.self })) c.take.ensures.value
          ∙ ap (λ (o : Option TogetherNow). still (record x { together = x.gathered; gathered = o })) c.take.ensures.after
          ∙ together_ended x c.args.frame i q e (sym (ap (λ (f : FrameNow). f.block) c.frame.view_is) ∙ c.in-Together.is);
    }

pub returns-in-Repeat : goal.returns-in-Repeat
returns-in-Repeat c =
    let e = c.end_repeated.ensures in
    record {
      works = λ said q i none.
          repeat_end_works c.args.self.now c.end_repeated.new.self c.args.frame c.end_repeated.result i q none (sym (ap (λ (f : FrameNow). f.block) c.frame.view_is) ∙ c.in-Repeat.is) said e.ends e.scene e.rounds e.frames e.others;
    }
