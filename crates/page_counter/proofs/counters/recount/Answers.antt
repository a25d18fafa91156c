use Rattle.std.proofs.Common.{refl, arith}
use Rattle.group_tree.proofs.LineageLemmas.{live-within}
use Rattle.page_counter.proofs.KeptLemmas.{covered, fits, counts_more, AreKept-propagated}
use Rattle.page_counter.proofs.SettingLemmas.{recounted}
use Rattle.page_counter.proofs.counters.recount.Goals as goal

pub propagate-requires-clause-covered : goal.propagate-requires-clause-covered
propagate-requires-clause-covered c =
    let there = live-within c.args.lineage.now.tree c.args.group.0 c.requires.live in
    covered c.requires.tree.earlier_parents there c.requires.kept (recounted c.args.guard c.args.limits.now c.args.group.0 (omega arith) c.args.lineage.now.tree c.args.usage.now (omega arith) _ 0 _ _ refl refl c.guard-setting.result c.guard-setting.ensures c.at_most-before.result c.at_most.result c.at_most-before.ensures c.args.pages c.at_most.ensures)

pub propagate-requires-clause-fits : goal.propagate-requires-clause-fits
propagate-requires-clause-fits c p child more =
    let there = live-within c.args.lineage.now.tree c.args.group.0 c.requires.live in
    fits c.requires.tree.earlier_parents there c.requires.kept (recounted c.args.guard c.args.limits.now c.args.group.0 (omega arith) c.args.lineage.now.tree c.args.usage.now (omega arith) _ 0 _ _ refl refl c.guard-setting.result c.guard-setting.ensures c.at_most-before.result c.at_most.result c.at_most-before.ensures c.args.pages c.at_most.ensures)
    18446744073709551615 p child (c.requires.fits (counts_more _ _ _ (rw (c.at_most-before.ensures, c.at_most.ensures) at more)) _ p child)

pub returns-clause-kept : goal.returns-clause-kept
returns-clause-kept c =
    let there = live-within c.args.lineage.now.tree c.args.group.0 c.requires.live in
    AreKept-propagated c.requires.tree.earlier_parents there c.requires.kept (recounted c.args.guard c.args.limits.now c.args.group.0 (omega arith) c.args.lineage.now.tree c.args.usage.now (omega arith) _ 0 _ _ refl refl c.guard-setting.result c.guard-setting.ensures c.at_most-before.result c.at_most.result c.at_most-before.ensures c.args.pages c.at_most.ensures) _ c.propagate.ensures.sums c.propagate.ensures.propagates
