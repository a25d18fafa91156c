use Rattle.std.proofs.Common.{ap}
use Rattle.expansion.specs.declared.expansion.Expansion.{Expansion}
use Rattle.expansion.specs.ToCome.{told_of, gathering}
use Rattle.expansion.proofs.StepLemmas.{gather_more, others_again}
use Rattle.expansion.proofs.expansion.Expansion.gather.Goals as goal

pub loop-burst-preserved : goal.loop-burst-preserved
loop-burst-preserved c =
    let x = c.args.self.now in
    let y = c.loop-burst.self in
    let n = c.gather_one.new.self in
    let ws = c.args.words.now in
    record {
      members = gather_more (told_of y.line y.rounds.items ws) (told_of x.line x.rounds.items ws) _ c.loop-burst.yielded c.in-Some.burst (gathering x) (gathering y) (gathering n)
          (ap (λ (z : Expansion). told_of z.line z.rounds.items ws) c.loop-burst.invariant.others) c.loop-burst.invariant.members c.in_ok-gather_one.ensures.members;
      others = others_again x y n c.loop-burst.invariant.others c.in_ok-gather_one.ensures.others;
      repeats = c.loop-burst.invariant.repeats;
    }
