use Rattle.std.proofs.Common.{◌≡◌, ℕ, ◌∙◌, ◌+◌, ◌<◌, ◌++◌, ◌∷◌, [], List, length, take, get_or, sym, ap, subst}
use Rattle.std.proofs.lemmas.List.{take_more, take_all}
use Rattle.machine.specs.declared.command.Step.{Step}
use Rattle.driver.specs.Schedule.{World, first_world}
use Rattle.driver.specs.Desks.{RunsTo}
use Rattle.driver.proofs.StepLemmas.{runs_to_none, runs_to_more, closed_gives}
use Rattle.callers.proofs.stepped.run_by_steps.Goals as goal

-- one step more
one_more : (steps : List Step) (at : ℕ) (step : Step) → at < length steps → step ≡ get_or steps at step → take (at + 1) steps ≡ take at steps ++ step ∷ []
one_more steps at step lt is = take_more steps at step lt ∙ ap (λ (s : Step). take at steps ++ s ∷ []) (sym is)

pub loop-at-init : goal.loop-at-init
loop-at-init g c =
    let From : World → Type 0 = λ w. RunsTo g.S.Sink.took g.S.Sink.saw c.args.sink.now c.args.sink.now w [] c.in-Ok.run' in
    record {
      fit = c.in-Ok.ensures.sized;
      ran = subst From c.in-Ok.ensures.opens (runs_to_none g.S.Sink.took g.S.Sink.saw g.met.S.Sink.nothing g.met.S.Sink.unseen c.args.sink.now c.in-Ok.run');
    }

pub loop-at-preserved : goal.loop-at-preserved
loop-at-preserved g c =
    let steps : List Step = c.args.steps.now in
    let at = c.loop-at.at in
    let item : Step = c.index-steps-at.result in
    let opening : World = first_world c.args.config c.args.device in
    let To : List Step → Type 0 = λ ss. RunsTo g.S.Sink.took g.S.Sink.saw c.args.sink.now c.step.new.sink opening ss c.step.new.self in
    record {
      fit = c.loop-at.invariant.fit;
      ran = subst To (sym (one_more steps at item c.loop-at-test.true c.index-steps-at.is))
          (runs_to_more g.S.Sink.took g.S.Sink.saw g.met.S.Sink.more g.met.S.Sink.further c.args.sink.now c.loop-at.sink c.step.new.sink opening (take at steps) c.loop-at.run (item ∷ []) c.step.new.self c.loop-at.invariant.ran c.in-Ok-step.ensures.runs);
    }

pub returns : goal.returns
returns g c =
    let steps : List Step = c.args.steps.now in
    let To : List Step → Type 0 = λ ss. RunsTo g.S.Sink.took g.S.Sink.saw c.args.sink.now c.loop-at.sink (first_world c.args.config c.args.device) ss c.loop-at.run in
    let all : take c.loop-at.at steps ≡ steps = take_all c.loop-at.at steps c.loop-at-test.false in
    closed_gives g.S.Sink.took g.S.Sink.saw c.args.config c.args.device steps c.args.sink.now c.loop-at.sink c.loop-at.run c.close-2.result.1 _ c.loop-at.invariant.fit (subst To all c.loop-at.invariant.ran)
    (λ answers ran. c.close-2.ensures.closes c.args.config c.args.device steps answers c.loop-at.invariant.fit ran)
    c.close-2.ensures.traced
    c.close-2.ensures.device
