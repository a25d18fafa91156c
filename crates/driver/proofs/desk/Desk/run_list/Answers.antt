use Rattle.std.proofs.Common.{◌≡◌, ℕ, ◌∙◌, ◌+◌, ◌<◌, ◌++◌, ◌∷◌, [], List, length, take, drop, get_or, sym, ap, refl, subst}
use Rattle.std.proofs.lemmas.List.{take-append-drop, take_more, take_all}
use Rattle.machine.specs.declared.command.Step.{Step}
use Rattle.driver.specs.Schedule.{World, RunsThrough}
use Rattle.driver.specs.Sinks.{CutsRun}
use Rattle.driver.specs.Desks.{world}
use Rattle.driver.proofs.Runs.{same-refl, same-more}
use Rattle.driver.proofs.SinkLemmas.{on_err, cuts_then, cuts_more, runs_of, RunsThrough-then}
use Rattle.driver.proofs.desk.Desk.run_list.Goals as goal

-- one step more
one_more : (steps : List Step) (at : ℕ) (step : Step) → at < length steps → step ≡ get_or steps at step → take (at + 1) steps ≡ take at steps ++ step ∷ []
one_more steps at step lt is = take_more steps at step lt ∙ ap (λ (s : Step). take at steps ++ s ∷ []) (sym is)

pub loop-at-init : goal.loop-at-init
loop-at-init g c = record { on = c.requires; same = same-refl _; ran = ([], [], g.met.S.Sink.nothing _, g.met.S.Sink.unseen _, (refl, refl, refl)) }

pub loop-at-preserved : goal.loop-at-preserved
loop-at-preserved g c =
    let ran = c.loop-at.invariant.ran in
    let went = c.in_ok-run_one.ensures.runs in
    let steps : List Step = c.args.steps.now in
    let at = c.loop-at.at in
    let item : Step = c.index-steps-at.result in
    let more = one_more steps at item c.loop-at-test.true c.index-steps-at.is in
    let old : World = world c.args.self.now (g.D.BlockDevice.disk c.args.device.now) in
    let mid : World = world c.loop-at.self (g.D.BlockDevice.disk c.loop-at.device) in
    let new : World = world c.run_one.new.self (g.D.BlockDevice.disk c.run_one.new.device) in
    record {
      on = c.in_ok-run_one.ensures.on;
      same = same-more _ _ _ c.loop-at.invariant.same c.in_ok-run_one.ensures.same;
      ran = (
        ran.0 ++ went.0,
        ran.1 ++ went.1,
        g.met.S.Sink.more _ _ _ _ _ ran.2 went.2,
        g.met.S.Sink.further _ _ _ _ _ ran.3 went.3,
        subst (λ (ss : List Step). RunsThrough old ss (ran.0 ++ went.0) (ran.1 ++ went.1) new) (sym more) (RunsThrough-then old (take at steps) ran.0 ran.1 mid (item ∷ []) went.0 went.1 new ran.4 went.4),
      );
    }

pub returns-in_err-run_one-clause-cut : goal.returns-in_err-run_one-clause-cut
returns-in_err-run_one-clause-cut g c =
    let ran = c.loop-at.invariant.ran in
    let steps : List Step = c.args.steps.now in
    let at = c.loop-at.at in
    let item : Step = c.index-steps-at.result in
    let all : (take at steps ++ item ∷ []) ++ drop (at + 1) steps ≡ steps = ap (λ (ss : List Step). ss ++ drop (at + 1) steps) (sym (one_more steps at item c.loop-at-test.true c.index-steps-at.is)) ∙ take-append-drop (at + 1) steps in
    let old : World = world c.args.self.now (g.D.BlockDevice.disk c.args.device.now) in
    let mid : World = world c.loop-at.self (g.D.BlockDevice.disk c.loop-at.device) in
    let after = g.D.BlockDevice.disk c.run_one.new.device in
    on_err c.from_residual.result (subst (λ (ss : List Step). CutsRun g.S.Sink.took g.S.Sink.failed c.args.sink.now c.run_one.new.sink old ss after) all
    (cuts_more g.S.Sink.took g.S.Sink.failed c.args.sink.now c.run_one.new.sink old (take at steps ++ item ∷ []) (drop (at + 1) steps) after
    (cuts_then g.S.Sink.took g.S.Sink.failed g.met.S.Sink.more c.args.sink.now c.loop-at.sink c.run_one.new.sink old (take at steps) ran.0 mid (item ∷ []) after ran.2 (runs_of old (take at steps) ran.0 ran.1 mid ran.4) c.in_err-run_one.ensures.cut)))
