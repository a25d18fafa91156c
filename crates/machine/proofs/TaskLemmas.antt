-- A task's number that nothing refuses.
use Rattle.std.proofs.Common.{◌≡◌, ℕ, ◌&&◌, not, Bool, true, false, Option, Some, None, refl}
use Rattle.std.specs.Prelude.{nat_le, is_some}
use Rattle.machine.specs.declared.refusal.Refusal.TheVariants.{Invalid, NumberUsed, NoSpace}
use Rattle.machine.specs.declared.record.Task.{Task}
use Rattle.machine.specs.Tasks.{Tasks, task_at, live_tasks}
use Rattle.machine.specs.Refusals.{first_cause, number_refusal}

-- a number that nothing refuses is no task's
pub not_used : (tasks : Tasks) (t : ℕ) → number_refusal tasks t ≡ None → task_at tasks t ≡ None
not_used tasks t none = by_tests (not (nat_le 1 t && nat_le t 65535)) (task_at tasks t) refl none
  where
    by_tests : (b : Bool) (slot : Option Task) → task_at tasks t ≡ slot → first_cause b Invalid (first_cause (is_some slot) NumberUsed (first_cause (nat_le 1024 (live_tasks tasks)) NoSpace None)) ≡ None
        → task_at tasks t ≡ None
    by_tests true slot is e = cc
    by_tests false None is e = is
    by_tests false (Some task) is e = cc
