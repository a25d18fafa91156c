use Rattle.std.proofs.Common.{◌≡◌, ◌<◌, Some, length, sym, ◌∙◌, arith}
use Rattle.std.proofs.lemmas.Bool.Decides.{nat_tests}
use Rattle.machine.specs.Tree.{IsAbove, share}
use Rattle.machine.proofs.TreeLemmas.{share-None, parent_in, above_parent}
use Rattle.group_tree.specs.Tables.{number}
use Rattle.page_counter.proofs.WalkLemmas.{live_parent, can_take, taken_more, differs_from_test}
use Rattle.page_counter.proofs.counters.take_down.Goals as goal

pub overflow_sub-count : goal.overflow_sub-count
overflow_sub-count c =
    let there : c.in-Some.here.0 < length c.args.lineage.now.tree = rw c.in-Some.is at c.loop-at.invariant.there in
    let above : IsAbove c.args.lineage.now.tree (number c.args.until) (Some c.in-Some.here.0) = rw c.in-Some.is at c.loop-at.invariant.above in
    let differs : number c.args.until ≡ Some c.in-Some.here.0 → ⊥ = differs_from_test _ (λ u g same. grind (arith, nat_tests, same)) c.args.until c.in-Some.here (sym c.eq.ensures ∙ c.if-eq.false) in
    can_take c.args.lineage.now.tree c.requires.tree.earlier_parents c.loop-at.usage c.args.usage.now c.args.group.0 c.in-Some.here.0 (number c.args.until) there above differs
    (rw c.in-Some.is at c.loop-at.invariant.counts) c.requires.counted

pub set_usage-requires-clause-live : goal.set_usage-requires-clause-live
set_usage-requires-clause-live c = rw c.in-Some.is at c.loop-at.invariant.live

pub set_usage-requires-clause-fits : goal.set_usage-requires-clause-fits
set_usage-requires-clause-fits c more = absurd (omega (arith, more))

pub loop-at-preserved : goal.loop-at-preserved
loop-at-preserved c =
    let there : c.in-Some.here.0 < length c.args.lineage.now.tree = rw c.in-Some.is at c.loop-at.invariant.there in
    let above : IsAbove c.args.lineage.now.tree (number c.args.until) (Some c.in-Some.here.0) = rw c.in-Some.is at c.loop-at.invariant.above in
    let differs : number c.args.until ≡ Some c.in-Some.here.0 → ⊥ = differs_from_test _ (λ u g same. grind (arith, nat_tests, same)) c.args.until c.in-Some.here (sym c.eq.ensures ∙ c.if-eq.false) in
    let more =
    can_take c.args.lineage.now.tree c.requires.tree.earlier_parents c.loop-at.usage c.args.usage.now c.args.group.0 c.in-Some.here.0 (number c.args.until) there above differs
    (rw c.in-Some.is at c.loop-at.invariant.counts) c.requires.counted in
    rw c.parent-at.ensures.parent
    (record {
      there = parent_in c.args.lineage.now.tree c.requires.tree.earlier_parents c.in-Some.here.0 (length c.args.lineage.now.tree) there;
      live = live_parent c.args.lineage.now.tree c.requires.tree c.in-Some.here.0 (rw c.in-Some.is at c.loop-at.invariant.live);
      above = above_parent c.args.lineage.now.tree c.requires.tree.earlier_parents (number c.args.until) c.in-Some.here.0 above differs;
      counts =
          rw c.set_usage.ensures.usage
          (taken_more c.args.lineage.now.tree c.requires.tree.earlier_parents c.loop-at.usage c.args.usage.now c.args.group.0 c.in-Some.here.0 (omega arith) more
          (rw c.in-Some.is at c.loop-at.invariant.counts));
      kept = record { kept = c.set_usage.ensures.kept.kept; room = c.set_usage.ensures.kept.room ∙ c.loop-at.invariant.kept.room };
    })

pub returns-clause-taken : goal.returns-clause-taken
returns-clause-taken c a lt =
    let e = c.loop-at.invariant.counts a lt in
    let h = c.loop-at.invariant.above a in
    let none = share-None c.args.lineage.now.tree c.requires.tree.earlier_parents a in
    let at_end : share c.args.lineage.now.tree a (number c.loop-at.at) ≡ 0 = rw c.in_default.is none in
    omega (arith, e, h, at_end)
