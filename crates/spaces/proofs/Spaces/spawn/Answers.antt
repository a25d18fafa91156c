use Rattle.std.proofs.Common.{◌∙◌, ap, arith}
use Rattle.machine.specs.Tasks.{PageTables, table_of}
use Rattle.spaces.proofs.GroupLemmas.{group-fits}
use Rattle.spaces.proofs.TaskLemmas.{number-within, same-begun, ShowsNothing-begun, AreSpaces-begun}
use Rattle.spaces.proofs.Spaces.spawn.Goals as goal

pub invariant_of-self-2 : goal.invariant_of-self-2
invariant_of-self-2 c =
    let requires = rw (← c.self.view_is) at c.requires in
    let number = number-within c.self.inside.tasks.items c.args.task.0 requires.number in
    let invariant = c.self.invariant in
    AreSpaces-begun _ _ _ _ _ _ invariant _ requires.number (c.put_table.ensures.put ∙ c.in_ok-table.ensures)
    (λ u other. c.put_table.ensures.others u other ∙ ap (λ (x : PageTables). table_of x u) c.reserve_number-2.ensures.items) _ _ _
    (rw c.reserve_number.ensures.items at c.put_task.ensures.put) (omega (arith, number, invariant)) (omega (arith, invariant)) requires.group c.index_mut.ensures.value

pub returns-clause-shown : goal.returns-clause-shown
returns-clause-shown c =
    rw (← c.self.view_is)
    (ShowsNothing-begun _ _ _ _ _ _ c.self.invariant _ (rw (← c.self.view_is) at c.requires.number) (c.put_table.ensures.put ∙ c.in_ok-table.ensures)
    (λ u other. c.put_table.ensures.others u other ∙ ap (λ (x : PageTables). table_of x u) c.reserve_number-2.ensures.items))

pub returns-clause-same : goal.returns-clause-same
returns-clause-same c =
    rw (← c.self.view_is)
    (same-begun _ _ _ _ _ _ c.self.invariant _ (rw (← c.self.view_is) at c.requires.number) (c.put_table.ensures.put ∙ c.in_ok-table.ensures)
    (λ u other. c.put_table.ensures.others u other ∙ ap (λ (x : PageTables). table_of x u) c.reserve_number-2.ensures.items))

pub overflow_add-index_mut : goal.overflow_add-index_mut
overflow_add-index_mut c =
    let requires = rw (← c.self.view_is) at c.requires in
    let fits = group-fits _ _ _ _ _ c.self.invariant c.args.group.0 _ requires.group c.index_mut.ensures.value in
    omega (arith, fits)
