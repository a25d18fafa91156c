use Rattle.std.proofs.Common.{ℕ, ◌+◌, Vec, Global, arith}
use Rattle.std.proofs.lemmas.Result.{err_from_is_err_and}
use Rattle.scenario_words.specs.Faults.{as_is}
use Rattle.scenario_lines.proofs.SceneLemmas.{same_fault, tasks_begun, task_more, task_missing, tasks_ended}
use Rattle.scenario_lines.proofs.scene.Scene.tasks_between.Goals as goal
use Rattle.scenario_lines.proofs.scene.Scene.tasks_between.Goals.{else-loop-number-test, then-loop-number-test+in_ok-one_task+in_ok-push+else-number-last}

pub loop-number-init : goal.loop-number-init
loop-number-init c = tasks_begun c.new-tasks.result.items _ c.new-tasks.ensures.items

pub loop-number-preserved : goal.loop-number-preserved
loop-number-preserved c =
    task_more c.args.self.now.tasks.started c.args.word.now c.args.name.now c.loop-number.number c.args.last c.in_ok-one_task.field-0 c.loop-number.tasks.items c.push.new.self.items _ (omega arith) c.in_ok-one_task.ensures c.in_ok-push.ensures.items c.loop-number.invariant

pub returns-in_err-one_task : goal.returns-in_err-one_task
returns-in_err-one_task c =
    let p = err_from_is_err_and c.from_residual.result c.from_residual.ensures.1 in
    let started = c.args.self.now.tasks.started in
    rw (p.1, p.2) (same_fault {T = ℕ} as_is (λ (tasks : Vec ℕ Global). tasks.items) c.in_err-one_task.field-0.0 _ _ (λ f e. task_missing started c.args.word.now c.args.name.now c.loop-number.number c.args.last c.loop-number.tasks.items f _ (omega arith) c.loop-number.invariant e) c.in_err-one_task.ensures)

pub returns : goal.returns
returns c =
    let started = c.args.self.now.tasks.started in
    let w = c.args.word.now in
    let name = c.args.name.now in
    let n = c.loop-number.number in
    let last = c.args.last in
    elim c.loop-number-test.branch [
      | else-loop-number-test at ↦ rw at.tasks-is (tasks_ended started w name n last c.loop-number.tasks.items _ (omega arith) c.loop-number.invariant)
      | then-loop-number-test+in_ok-one_task+in_ok-push+else-number-last at ↦ rw at.tasks-is (tasks_ended started w name (n + 1) last at.push.new.self.items _ (omega arith)
          (task_more started w name n last at.in_ok-one_task.field-0 c.loop-number.tasks.items at.push.new.self.items _ (omega arith) at.in_ok-one_task.ensures at.in_ok-push.ensures.items c.loop-number.invariant))
    ]
