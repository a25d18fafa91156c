use Rattle.std.proofs.Common.{◌∙◌, ◌++◌, ◌∷◌, [], ap}
use Rattle.machine.specs.Counts.{no_counts}
use Rattle.memory_events.proofs.CountLemmas.{pushed_none, sums-root}
use Rattle.memory_events.proofs.events.Events.new.Goals as goal

pub invariant_of-result : goal.invariant_of-result
invariant_of-result c =
    sums-root _ _ _ c.in_ok-lineage.ensures
    (pushed_none _ _ _ c.default.ensures c.push_reserved.ensures.items ∙ ap (λ xs. xs ++ no_counts ∷ []) c.in_ok-totals.ensures.items)
    (pushed_none _ _ _ c.default-2.ensures c.push_reserved-2.ensures.items ∙ ap (λ xs. xs ++ no_counts ∷ []) c.in_ok-locals.ensures.items)
