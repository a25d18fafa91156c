-- What a fork, a move and a removal change.
use Rattle.std.proofs.Common.{◌≡◌, ◌∙◌, Bool, Option, Some, None, eq-eqb, refl, sym, ap, subst}
use Rattle.machine.specs.declared.id.TaskId.{TaskId}
use Rattle.machine.specs.declared.record.Life.{Life}
use Rattle.machine.specs.declared.record.Life.TheVariants.{Live, Exited, Killed}
use Rattle.machine.specs.declared.record.Task.{Task}
use Rattle.machine.specs.declared.event.Event.{Event}
use Rattle.machine.specs.declared.event.Event.TheVariants as event
use Rattle.machine.specs.declared.reply.Reply.{Reply}
use Rattle.machine.specs.declared.reply.Reply.TheVariants as reply
use Rattle.machine.specs.Slots.{there_and}
use Rattle.machine.specs.Tree.{is_live}
use Rattle.machine.specs.Counts.{local}
use Rattle.machine.specs.Tasks.{task_at, group_of, is_live_task}
use Rattle.machine.specs.State.{State, usage}
use Rattle.machine.specs.Step.{Forks, LifeStep, TaskStep, Removes, Step}
use Rattle.machine.specs.History.{InTask, As, says, says_if, follow, last}
use Rattle.machine.proofs.Values.{unlike}
use Rattle.page_lists.proofs.RegroupedLemmas.{usage-removed}
use Rattle.legal.proofs.SoundLemmas.{legal-fit, legal-sound}
use Rattle.legal.proofs.RemovedCounts.{removal, total-removed, usage-nobody}
use Rattle.laws.specs.Laws.{ForksShare, MovesTakeNoCharge, RemovalsKeepAncestorsCounts, RemovedGroupsHaveNoPages}

-- a fork that is done is one of a live task
forked : (before after : State) (t child : TaskId) (slot : Option Task) → TaskStep before slot (λ task. Forks before t.0 child.0 task reply.Ok after) reply.Ok after → (task : Task) × (slot ≡ Some task) × Forks before t.0 child.0 task reply.Ok after
forked before after t child None h = absurd h
forked before after t child (Some task) h = by_life task.life h
  where
    by_life : (life : Life) → LifeStep before life (Forks before t.0 child.0 task reply.Ok after) reply.Ok after → (found : Task) × (Some task ≡ Some found) × Forks before t.0 child.0 found reply.Ok after
    by_life Live k = (task, refl, k)
    by_life Exited k = absurd k
    by_life Killed k = absurd (let e = k.0 in cc)

pub forks_share : ForksShare
forks_share before after earlier t child entry is done step =
    let served : Step before (event.Fork t child) reply.Ok after = subst (λ (what : Event). Step before what reply.Ok after) is (subst (λ (answer : Reply). Step before entry.event answer after) done step) in
    let found = forked before after t child (task_at before.tasks t.0) served in
    let forks = found.2 in
    record {
      lives = ap (there_and is_live_task) forks.1.changed;
      group = ap group_of forks.1.changed ∙ sym (ap group_of found.1);
      shows = forks.2.copied;
      others = forks.2.others;
      bytes = λ first v o.
          ap (λ (what : Event). follow (says what entry.reply (InTask child.0 v o)) (last first earlier) (InTask child.0 v o)) is
          ∙ ap (λ (answer : Reply). follow (says (event.Fork t child) answer (InTask child.0 v o)) (last first earlier) (InTask child.0 v o)) done
          ∙ ap (λ (b : Bool). follow (says_if b (As (InTask t.0 v o))) (last first earlier) (InTask child.0 v o)) (eq-eqb child.0 child.0 refl);
      pages = ap (λ (s : State). s.pages) forks.3;
      usage = λ a. ap (λ (s : State). usage s a) forks.3;
    }

pub moves_take_no_charge : MovesTakeNoCharge
moves_take_no_charge before after t g reply.Ok h = (ap group_of h.0.changed, ap (λ (s : State). s.pages) h.1, λ a. ap (λ (s : State). usage s a) h.1)
moves_take_no_charge before after t g answer h = absurd h

pub removals_keep_ancestors_counts : RemovalsKeepAncestorsCounts
removals_keep_ancestors_counts opening history before after g answer legal step =
    let removes : Removes before g.0 after = removal before after g answer step in (
      λ a other. usage-removed before after g.0 (legal-sound opening history before legal).1.falls removes a other,
      λ a key. (total-removed before after g.0 removes a key, ap (λ (s : State). local s.counted a key) removes.state),
    )

pub removed_groups_have_no_pages : RemovedGroupsHaveNoPages
removed_groups_have_no_pages opening history s legal g gone = (
  λ p page there same. unlike (is_live s.tree g) (ap (is_live s.tree) (sym same) ∙ (legal-fit opening history s legal p page there).live) gone,
  usage-nobody opening.swap opening.files s g (legal-sound opening history s legal).1 gone,
)
