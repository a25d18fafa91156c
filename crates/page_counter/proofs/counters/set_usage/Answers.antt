use Rattle.std.proofs.Common.{◌≡◌, List, ◌∙◌, sym, subst, slice_set, ℕ}
use Rattle.machine.specs.declared.record.Guard.{Guard}
use Rattle.machine.specs.declared.record.Guard.TheVariants.{Min, Low}
use Rattle.machine.specs.Protection.{setting_of}
use Rattle.page_counter.specs.Sums.{AreKept}
use Rattle.page_counter.specs.GuardSums.{GuardSumsOf, sums_in}
use Rattle.page_counter.proofs.counters.set_usage.Goals as goal

pub recount-requires-clause-kept : goal.recount-requires-clause-kept
recount-requires-clause-kept c = c.requires.kept Min

pub recount-requires-2-clause-kept : goal.recount-requires-2-clause-kept
recount-requires-2-clause-kept c = subst (AreKept c.args.lineage.now.tree (setting_of Low c.args.limits.now) c.args.usage.now) (sym (c.recount.ensures.others Low tt)) (c.requires.kept Low)

pub returns-clause-kept : goal.returns-clause-kept
returns-clause-kept c = record { kept = kept; room = c.recount-2.ensures.room ∙ c.recount.ensures.room }
  where
    kept : (guard : Guard) → AreKept c.args.lineage.now.tree (setting_of guard c.args.limits.now) (slice_set c.args.usage.now c.args.group.0 c.args.pages) (sums_in guard c.recount-2.new.sums)
    kept Min = subst (AreKept c.args.lineage.now.tree (setting_of Min c.args.limits.now) (slice_set c.args.usage.now c.args.group.0 c.args.pages)) (sym (c.recount-2.ensures.others Min tt)) c.recount.ensures.kept
    kept Low = c.recount-2.ensures.kept
