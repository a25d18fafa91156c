use Rattle.std.proofs.Common.{◌∙◌, ◌<◌, ap, arith, Some, None, length, slice_set, get_or-set_same, get_or-set_other}
use Rattle.std.proofs.lemmas.Grind.{common_steps}
use Rattle.std.proofs.lemmas.List.{length-set}
use Rattle.machine.specs.declared.record.Life.TheVariants.{Live}
use Rattle.machine.specs.Tasks.{group_of, task_of, SetsTask}
use Rattle.spaces.proofs.GroupLemmas.{group-within, group-counted, left-fits}
use Rattle.spaces.proofs.TaskLemmas.{AreSpaces-moved}
use Rattle.spaces.proofs.Spaces.attach.Goals as goal

pub index_mut-requires-2 : goal.index_mut-requires-2
index_mut-requires-2 c =
    let requires = rw (← c.self.view_is) at c.requires in
    let of = c.group_of-from.ensures ∙ ap group_of (rw (← c.self.view_is) at c.task.ensures) in
    let within = group-within _ _ _ _ _ c.self.invariant c.args.task.0 c.group_of-from.result.0 requires.there of in
    omega (arith, within)

pub overflow_sub-index_mut : goal.overflow_sub-index_mut
overflow_sub-index_mut c =
    let requires = rw (← c.self.view_is) at c.requires in
    let of = c.group_of-from.ensures ∙ ap group_of (rw (← c.self.view_is) at c.task.ensures) in
    let some = group-counted _ _ _ _ _ c.self.invariant c.args.task.0 c.group_of-from.result.0 _ requires.there of c.index_mut-2.ensures.value in
    omega (arith, some)

pub overflow_add-index_mut : goal.overflow_add-index_mut
overflow_add-index_mut c =
    let requires = rw (← c.self.view_is) at c.requires in
    let of = c.group_of-from.ensures ∙ ap group_of (rw (← c.self.view_is) at c.task.ensures) in
    let fits = left-fits _ _ _ _ _ c.self.invariant c.args.task.0 c.group_of-from.result.0 _ c.args.group.0 _ requires.there of c.index_mut-2.ensures.value requires.group c.index_mut-3.ensures.value in
    omega (arith, fits)

pub invariant_of-self : goal.invariant_of-self
invariant_of-self c =
    let requires = rw (← c.self.view_is) at c.requires in
    let of = c.group_of-from.ensures ∙ ap group_of (rw (← c.self.view_is) at c.task.ensures) in
    let tasks = c.self.inside.tasks.items in
    let t = c.args.task.0 in
    let to = Some (task_of c.args.group.0 Live) in
    let there : t < length tasks = grind (arith, common_steps, requires.there) in
    let sets : SetsTask tasks t c.args.group.0 Live (slice_set tasks t to) = record { changed = get_or-set_same tasks t to None there; others = λ u other. get_or-set_other tasks t u to None other } in
    AreSpaces-moved _ _ _ _ _ _ t c.group_of-from.result.0 c.args.group.0 _ _ c.self.invariant requires.there sets (length-set tasks t to) of c.index_mut-2.ensures.value requires.group c.index_mut-3.ensures.value
