use Rattle.std.proofs.Common.{length-set, slice_set, arith}
use Rattle.machine.specs.declared.record.Guard.{Guard}
use Rattle.machine.specs.Counts.{guard_of, with_guard}
use Rattle.machine.specs.Protection.{setting_of}
use Rattle.group_tree.proofs.LineageLemmas.{live-within}
use Rattle.group_tree.proofs.PreorderLemmas.{child_parent}
use Rattle.page_counter.specs.Tables.{counts_of}
use Rattle.page_counter.proofs.ChildLemmas.{children_min_usage-le}
use Rattle.page_counter.proofs.KeptLemmas.{covered, fits, AreKept-propagated}
use Rattle.page_counter.proofs.GroupSums.{AreKept-same}
use Rattle.page_counter.proofs.GuardLemmas.{of_both, guard_of-other}
use Rattle.page_counter.specs.Sums.{AreKept}
use Rattle.page_counter.specs.GuardSums.{sums_in, IsOther}
use Rattle.page_counter.proofs.SettingLemmas.{same-setting, reset}
use Rattle.page_counter.proofs.WriteLemmas.{IsCounted-limits}
use Rattle.page_counter.proofs.counters.Counters.set_guard.Goals as goal

pub propagate-requires-clause-covered : goal.propagate-requires-clause-covered
propagate-requires-clause-covered c =
    let there = live-within c.self.inside.lineage.tree c.args.group.0 (rw (← c.self.view_is) at c.requires.live) in
    covered c.is_lineage.ensures.earlier_parents there (c.self.invariant.sums c.args.guard) (reset c.args.guard c.self.inside.limits.items c.args.group.0 (omega arith) c.self.inside.lineage.tree c.self.inside.usage.items (omega arith) c.index-usage.result.now _ c.index-limits.result.now _ c.index-usage.ensures c.index-limits.ensures c.guard.result c.guard.ensures
    c.at_most-before.result c.at_most-after.result c.at_most-before.ensures c.args.amount c.at_most-after.ensures)

pub propagate-requires-clause-fits : goal.propagate-requires-clause-fits
propagate-requires-clause-fits c p child more =
    let there = live-within c.self.inside.lineage.tree c.args.group.0 (rw (← c.self.view_is) at c.requires.live) in
    fits c.is_lineage.ensures.earlier_parents there (c.self.invariant.sums c.args.guard) (reset c.args.guard c.self.inside.limits.items c.args.group.0 (omega arith) c.self.inside.lineage.tree c.self.inside.usage.items (omega arith) c.index-usage.result.now _ c.index-limits.result.now _ c.index-usage.ensures c.index-limits.ensures c.guard.result c.guard.ensures
    c.at_most-before.result c.at_most-after.result c.at_most-before.ensures c.args.amount c.at_most-after.ensures) 18446744073709551615 p child
    (let le =
    children_min_usage-le (counts_of c.self.inside) (setting_of c.args.guard (slice_set c.self.inside.limits.items c.args.group.0 (with_guard c.index-limits.result.now c.args.guard c.args.amount))) c.self.invariant.tables.charges c.is_lineage.ensures.earlier_parents c.self.invariant.tables.counted p
    (let falls = c.is_lineage.ensures.earlier_parents.falls c.args.group.0 p (child_parent c.self.inside.lineage.tree p c.args.group.0 child) in omega (arith, falls, there)) in
    let count = (rw c.deref.ensures.value at c.counts_fit.ensures) p in
    omega (arith, le, count))

-- the other setting of the group is what it was
other-kept : (c : goal.After-propagate) (guard : Guard) → IsOther c.args.guard guard → AreKept c.self.inside.lineage.tree (setting_of guard (slice_set c.self.inside.limits.items c.args.group.0 (with_guard c.index-limits.result.now c.args.guard c.args.amount))) c.self.inside.usage.items (sums_in guard c.propagate.new.self)
other-kept c guard other =
    let there = live-within c.self.inside.lineage.tree c.args.group.0 (rw (← c.self.view_is) at c.requires.live) in
    let len = c.self.invariant.tables.limits_length in
    rw (c.propagate.ensures.others guard other)
    (AreKept-same _ _ _ _ _ (same-setting (guard_of guard) c.self.inside.limits.items c.args.group.0 (omega (arith, len, there)) c.index-limits.result.now _ _ c.index-limits.ensures (guard_of-other c.args.guard guard other c.index-limits.result.now c.args.amount)) (c.self.invariant.sums guard))

own-kept : (c : goal.After-propagate) → AreKept c.self.inside.lineage.tree (setting_of c.args.guard (slice_set c.self.inside.limits.items c.args.group.0 (with_guard c.index-limits.result.now c.args.guard c.args.amount))) c.self.inside.usage.items (sums_in c.args.guard c.propagate.new.self)
own-kept c =
    let there = live-within c.self.inside.lineage.tree c.args.group.0 (rw (← c.self.view_is) at c.requires.live) in
    AreKept-propagated c.is_lineage.ensures.earlier_parents there (c.self.invariant.sums c.args.guard) (reset c.args.guard c.self.inside.limits.items c.args.group.0 (omega arith) c.self.inside.lineage.tree c.self.inside.usage.items (omega arith) c.index-usage.result.now _ c.index-limits.result.now _ c.index-usage.ensures c.index-limits.ensures c.guard.result c.guard.ensures
    c.at_most-before.result c.at_most-after.result c.at_most-before.ensures c.args.amount c.at_most-after.ensures) _ c.propagate.ensures.sums c.propagate.ensures.propagates

pub invariant_of-self : goal.invariant_of-self
invariant_of-self c =
    record {
      tables = rw c.propagate.ensures.room (IsCounted-limits (counts_of c.self.inside) _ (length-set _ _ _) c.self.invariant.tables);
      sums = rw c.with_guard.ensures (of_both c.args.guard (λ guard. AreKept c.self.inside.lineage.tree (setting_of guard (slice_set c.self.inside.limits.items c.args.group.0 (with_guard c.index-limits.result.now c.args.guard c.args.amount))) c.self.inside.usage.items (sums_in guard c.propagate.new.self)) (own-kept c) (other-kept c));
    }
