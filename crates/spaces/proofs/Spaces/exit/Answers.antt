use Rattle.std.proofs.Common.{◌∙◌, ap, arith}
use Rattle.machine.specs.Tasks.{group_of}
use Rattle.spaces.proofs.GroupLemmas.{group-within, group-counted}
use Rattle.spaces.proofs.TaskLemmas.{AreSpaces-ended}
use Rattle.spaces.proofs.Spaces.exit.Goals as goal

pub index_mut-requires-2 : goal.index_mut-requires-2
index_mut-requires-2 c =
    let requires = rw (← c.self.view_is) at c.requires in
    let of = c.group_of-group.ensures ∙ ap group_of (rw (← c.self.view_is) at c.task.ensures) in
    let within = group-within _ _ _ _ _ c.self.invariant c.args.task.0 c.group_of-group.result.0 requires.there of in
    omega (arith, within)

pub overflow_sub-index_mut : goal.overflow_sub-index_mut
overflow_sub-index_mut c =
    let requires = rw (← c.self.view_is) at c.requires in
    let of = c.group_of-group.ensures ∙ ap group_of (rw (← c.self.view_is) at c.task.ensures) in
    let some = group-counted _ _ _ _ _ c.self.invariant c.args.task.0 c.group_of-group.result.0 _ requires.there of c.index_mut-2.ensures.value in
    omega (arith, some)

pub invariant_of-self : goal.invariant_of-self
invariant_of-self c =
    let requires = rw (← c.self.view_is) at c.requires in
    let of = c.group_of-group.ensures ∙ ap group_of (rw (← c.self.view_is) at c.task.ensures) in
    AreSpaces-ended _ _ _ _ _ _ _ _ _ c.args.life _ c.self.invariant requires.there requires.ended requires.empty c.end_task.ensures.ends (omega arith) c.none.ensures of c.index_mut-2.ensures.value
