use Rattle.std.proofs.Common.{[], ◌∷◌, ◌++◌, ap, arith}
use Rattle.std.proofs.lemmas.List.{get_or_append_left}
use Rattle.machine.specs.Counts.{no_limits, guard_of}
use Rattle.page_counter.proofs.GroupLemmas.{AreCounts-push, IsCounted-push}
use Rattle.page_counter.proofs.GroupSums.{AreKept-push}
use Rattle.page_counter.proofs.GuardLemmas.{in_both}
use Rattle.page_counter.proofs.counters.Counters.add_reserved.Goals as goal

pub invariant_of-self : goal.invariant_of-self
invariant_of-self c =
    let held = c.self.invariant.tables in
    let len = held.limits_length in
    record {
      tables = IsCounted-push _ _ c.args.parent.0 c.is_lineage.ensures held (rw (← c.self.view_is) at c.requires.parent) c.add.ensures.tree c.push_reserved-2.ensures.items c.push_reserved.ensures.items;
      sums =
          λ guard.
          rw (c.add.ensures.tree, c.push_reserved.ensures.items, c.push_reserved-2.ensures.items, in_both guard (λ sums. sums ++ 0 ∷ []) c.self.inside.sums c.add_reserved.new.self c.add_reserved.ensures.min c.add_reserved.ensures.low)
          (AreKept-push _ _ _ _ _ c.args.parent.0 c.is_lineage.ensures.earlier_parents held.usage_length (λ a lt. ap (guard_of guard) (get_or_append_left c.self.inside.limits.items (no_limits ∷ []) no_limits a (omega (arith, lt, len)))) (c.self.invariant.sums guard));
    }

pub returns-clause-counted : goal.returns-clause-counted
returns-clause-counted c =
    rw (← c.self.view_is)
    (AreCounts-push _ _ c.args.parent.0 c.is_lineage.ensures c.self.invariant.tables (rw (← c.self.view_is) at c.requires.parent) c.add.ensures.tree c.push_reserved-2.ensures.items)
