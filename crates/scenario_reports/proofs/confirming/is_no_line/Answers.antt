use Rattle.std.proofs.Common.{◌≡◌, None, subst}
use Rattle.scenario_lines.specs.Scene.{SceneNow}
use Rattle.scenario_machines.specs.RawLines.{IsNoLine}
use Rattle.scenario_reports.proofs.confirming.is_no_line.Goals as goal
use Rattle.scenario_reports.proofs.confirming.is_no_line.Goals.{in-Some, in-None}

pub returns : goal.returns
returns c = elim c.match-branch-2.branch [
  | in-Some w ↦ (rw w.result-is (λ e. absurd (cc)))
  | in-None w ↦ (
      let none : c.in_ok-schedule_of.field-0 ≡ None = cc in
      rw w.result-is (λ e. subst (λ (s : SceneNow). IsNoLine s.machine s.names c.args.line.now) c.scene.view_is (c.in_ok-schedule_of.ensures none))
      )
]
