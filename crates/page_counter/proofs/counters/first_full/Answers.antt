use Rattle.std.proofs.Common.{◌<◌, length, slice_index, refl, sym, ap, ◌∙◌, arith}
use Rattle.machine.specs.Counts.{over_at}
use Rattle.machine.proofs.TreeLemmas.{parent_in, over_at-None}
use Rattle.group_tree.specs.Tables.{number}
use Rattle.page_counter.proofs.WalkLemmas.{over_here, over_on}
use Rattle.page_counter.proofs.counters.first_full.Goals as goal

pub returns-then-is_full : goal.returns-then-is_full
returns-then-is_full c =
    let there : c.in-Some.here.0 < length c.args.lineage.now.tree = rw c.in-Some.is at c.loop-at.invariant.there in
    sym (sym c.loop-at.invariant.over ∙ ap (λ at. over_at c.args.lineage.now.tree c.args.limits.now (λ a. slice_index c.args.usage.now a) (number at)) c.in-Some.is
    ∙ over_here c.args.lineage.now.tree c.requires.tree c.args.usage.now c.args.usage.now c.args.group.0 c.in-Some.here.0 c.args.limits.now _ (omega arith) refl (sym c.is_full.ensures ∙ c.if-is_full.true))

pub loop-at-preserved : goal.loop-at-preserved
loop-at-preserved c =
    let there : c.in-Some.here.0 < length c.args.lineage.now.tree = rw c.in-Some.is at c.loop-at.invariant.there in
    rw c.parent-at.ensures.parent
    (record {
      there = parent_in c.args.lineage.now.tree c.requires.tree c.in-Some.here.0 (length c.args.lineage.now.tree) there;
      over =
          sym (over_on c.args.lineage.now.tree c.requires.tree c.args.usage.now c.args.usage.now c.args.group.0 c.in-Some.here.0 c.args.limits.now _ (omega arith) refl (sym c.is_full.ensures ∙ c.if-is_full.false))
          ∙ sym (ap (λ at. over_at c.args.lineage.now.tree c.args.limits.now (λ a. slice_index c.args.usage.now a) (number at)) c.in-Some.is) ∙ c.loop-at.invariant.over;
    })

pub returns : goal.returns
returns c =
    sym (sym c.loop-at.invariant.over ∙ ap (λ at. over_at c.args.lineage.now.tree c.args.limits.now (λ a. slice_index c.args.usage.now a) (number at)) c.in_default.is
    ∙ over_at-None c.args.lineage.now.tree c.requires.tree c.args.limits.now (λ a. slice_index c.args.usage.now a))
