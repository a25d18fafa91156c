use Rattle.std.proofs.Common.{◌≡◌, refl, length-set, arith}
use Rattle.machine.specs.declared.amount.Amount.{Amount}
use Rattle.machine.specs.declared.record.Guard.{Guard}
use Rattle.machine.specs.declared.record.Guard.TheVariants.{Min, Low}
use Rattle.machine.specs.declared.record.Limits.{Limits}
use Rattle.machine.specs.Counts.{guard_of}
use Rattle.group_tree.proofs.LineageLemmas.{live-within}
use Rattle.page_counter.proofs.GroupSums.{AreKept-same}
use Rattle.page_counter.proofs.SettingLemmas.{same-setting}
use Rattle.page_counter.proofs.WriteLemmas.{IsCounted-limits}
use Rattle.page_counter.proofs.counters.Counters.set_max.Goals as goal

-- another max changes neither
same_guard : (guard : Guard) (l : Limits) (max : Amount) → guard_of guard (record l { max = max }) ≡ guard_of guard l
same_guard Min l max = refl
same_guard Low l max = refl

pub invariant_of-self : goal.invariant_of-self
invariant_of-self c =
    let there = live-within c.self.inside.lineage.tree c.args.group.0 (rw (← c.self.view_is) at c.requires.live) in
    let len = c.self.invariant.tables.limits_length in
    record {
      tables = IsCounted-limits _ _ (length-set _ _ _) c.self.invariant.tables;
      sums = λ guard. AreKept-same _ _ _ _ _ (same-setting (guard_of guard) c.self.inside.limits.items c.args.group.0 (omega (arith, len, there)) c.index_mut.result.now _ _ c.index_mut.ensures.value (same_guard guard c.index_mut.result.now c.args.max)) (c.self.invariant.sums guard);
    }
