use Rattle.std.proofs.Common.{◌≡◌, ℕ, ◌∙◌, ◌+◌, ◌<◌, ◌++◌, ◌∷◌, [], List, length, take, drop, get_or, append-nil, sym, ap, refl, subst}
use Rattle.std.proofs.lemmas.List.{take-append-drop, take_more}
use Rattle.std.proofs.lemmas.List.Concat.{flat_map-append}
use Rattle.machine.specs.declared.command.Step.{Step}
use Rattle.schedules.specs.declared.schedule.Line.{Line}
use Rattle.schedules.specs.Schedule.{steps_of_line, steps_of}
use Rattle.driver.specs.Schedule.{World, RunsThrough}
use Rattle.driver.specs.Sinks.{CutsRun}
use Rattle.driver.specs.Desks.{world}
use Rattle.driver.proofs.Runs.{same-refl, same-more}
use Rattle.driver.proofs.SinkLemmas.{on_err, cuts_then, cuts_more, runs_of, RunsThrough-then}
use Rattle.driver.proofs.desk.Desk.run_lines.Goals as goal

-- the steps of one line more
line_more : (lines : List Line) (at : ℕ) (line : Line) → at < length lines → line ≡ get_or lines at line → steps_of (take (at + 1) lines) ≡ steps_of (take at lines) ++ steps_of_line line
line_more lines at line lt is =
    ap steps_of (take_more lines at line lt ∙ ap (λ (l : Line). take at lines ++ l ∷ []) (sym is)) ∙ flat_map-append steps_of_line (take at lines) (line ∷ [])
    ∙ ap (λ (ss : List Step). steps_of (take at lines) ++ ss) (append-nil (steps_of_line line))

pub loop-line-init : goal.loop-line-init
loop-line-init g c = record { on = c.requires; same = same-refl _; ran = ([], [], g.met.S.Sink.nothing _, g.met.S.Sink.unseen _, (refl, refl, refl)) }

pub loop-line-preserved : goal.loop-line-preserved
loop-line-preserved g c =
    let ran = c.loop-line.invariant.ran in
    let went = c.in_ok-run_line.ensures.runs in
    let lines : List Line = c.args.lines.now in
    let at = c.loop-line.line-index in
    let item : Line = c.line-item.result in
    let more = line_more lines at item c.loop-line-test.true c.line-item.is in
    let old : World = world c.args.self.now (g.D.BlockDevice.disk c.args.device.now) in
    let mid : World = world c.loop-line.self (g.D.BlockDevice.disk c.loop-line.device) in
    let new : World = world c.run_line.new.self (g.D.BlockDevice.disk c.run_line.new.device) in
    record {
      on = c.in_ok-run_line.ensures.on;
      same = same-more _ _ _ c.loop-line.invariant.same c.in_ok-run_line.ensures.same;
      ran = (
        ran.0 ++ went.0,
        ran.1 ++ went.1,
        g.met.S.Sink.more _ _ _ _ _ ran.2 went.2,
        g.met.S.Sink.further _ _ _ _ _ ran.3 went.3,
        subst (λ (ss : List Step). RunsThrough old ss (ran.0 ++ went.0) (ran.1 ++ went.1) new) (sym more)
            (RunsThrough-then old (steps_of (take at lines)) ran.0 ran.1 mid (steps_of_line item) went.0 went.1 new ran.4 went.4),
      );
    }

pub returns-in_err-run_line-clause-cut : goal.returns-in_err-run_line-clause-cut
returns-in_err-run_line-clause-cut g c =
    let ran = c.loop-line.invariant.ran in
    let lines : List Line = c.args.lines.now in
    let at = c.loop-line.line-index in
    let item : Line = c.line-item.result in
    let all : (steps_of (take at lines) ++ steps_of_line item) ++ steps_of (drop (at + 1) lines) ≡ steps_of lines =
    ap (λ (ss : List Step). ss ++ steps_of (drop (at + 1) lines)) (sym (line_more lines at item c.loop-line-test.true c.line-item.is)) ∙ sym (flat_map-append steps_of_line (take (at + 1) lines) (drop (at + 1) lines))
    ∙ ap steps_of (take-append-drop (at + 1) lines) in
    let old : World = world c.args.self.now (g.D.BlockDevice.disk c.args.device.now) in
    let mid : World = world c.loop-line.self (g.D.BlockDevice.disk c.loop-line.device) in
    let after = g.D.BlockDevice.disk c.run_line.new.device in
    on_err c.from_residual.result (subst (λ (ss : List Step). CutsRun g.S.Sink.took g.S.Sink.failed c.args.sink.now c.run_line.new.sink old ss after) all
    (cuts_more g.S.Sink.took g.S.Sink.failed c.args.sink.now c.run_line.new.sink old (steps_of (take at lines) ++ steps_of_line item) (steps_of (drop (at + 1) lines)) after
    (cuts_then g.S.Sink.took g.S.Sink.failed g.met.S.Sink.more c.args.sink.now c.loop-line.sink c.run_line.new.sink old (steps_of (take at lines)) ran.0 mid (steps_of_line item) after ran.2 (runs_of old (steps_of (take at lines)) ran.0 ran.1 mid ran.4) c.in_err-run_line.ensures.cut)))
