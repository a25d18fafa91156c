use Rattle.std.proofs.Common.{◌≡◌, ◌∙◌, sym, ap, rules}
use Rattle.std.specs.Prelude.{nat_lt, slice_index}
use Rattle.spaces.proofs.GroupLemmas.{has_tasks-counted}
use Rattle.spaces.proofs.Spaces.has_tasks.Goals as goal

pub returns-in-Some : goal.returns-in-Some
returns-in-Some c =
    let s = c.self.inside in
    let count : c.in-Some.count.now ≡ slice_index s.by_group.items c.args.group.0 = search rules in
    rw (← c.self.view_is) (ap (nat_lt 0) count ∙ sym (has_tasks-counted s.tasks.items s.by_group.items c.self.invariant.grouped c.args.group.0))

pub returns-in-None : goal.returns-in-None
returns-in-None c =
    let s = c.self.inside in
    let none : slice_index s.by_group.items c.args.group.0 ≡ 0 = search rules in
    rw (← c.self.view_is) (sym (has_tasks-counted s.tasks.items s.by_group.items c.self.invariant.grouped c.args.group.0 ∙ ap (nat_lt 0) none))
