use Rattle.std.proofs.Common.{◌≡◌, ◌<◌, ◌+◌, slice_set, Some, length, slice_index, sym, ap, ◌∙◌, arith}
use Rattle.std.proofs.lemmas.Grind.{same_number_lists}
use Rattle.machine.specs.Counts.{over_at}
use Rattle.machine.specs.Tree.{IsAbove, share}
use Rattle.machine.proofs.TreeLemmas.{share-None, parent_in, parent_above, over_at-None}
use Rattle.group_tree.specs.Tables.{number}
use Rattle.group_tree.proofs.PreorderLemmas.{child_parent}
use Rattle.page_counter.proofs.ChildLemmas.{children_min_usage-grown}
use Rattle.page_counter.proofs.WalkLemmas.{live_parent, added_more, not_yet, over_here, over_on}
use Rattle.page_counter.proofs.counters.add_up.Goals as goal

pub returns-then-is_full-clause-over : goal.returns-then-is_full-clause-over
returns-then-is_full-clause-over c =
    let there : c.in-Some.here.0 < length c.args.lineage.now.tree = rw c.in-Some.is at c.loop-at.invariant.there in
    let above : IsAbove c.args.lineage.now.tree (Some c.in-Some.here.0) (Some c.args.group.0) = rw c.in-Some.is at c.loop-at.invariant.above in
    let same = not_yet c.args.lineage.now.tree c.requires.tree.earlier_parents c.loop-at.usage c.args.usage.now c.args.group.0 c.in-Some.here.0 there above (rw c.in-Some.is at c.loop-at.invariant.counts) in
    sym c.loop-at.invariant.over ∙ ap (λ at. over_at c.args.lineage.now.tree c.args.limits.now (λ a. slice_index c.args.usage.now a) (number at)) c.in-Some.is
    ∙ over_here c.args.lineage.now.tree c.requires.tree.earlier_parents c.loop-at.usage c.args.usage.now c.args.group.0 c.in-Some.here.0 c.args.limits.now _ (omega arith) same (sym c.is_full.ensures ∙ c.if-is_full.true)

pub returns-then-is_full-clause-err : goal.returns-then-is_full-clause-err
returns-then-is_full-clause-err c =
    same_number_lists c.take_down.new.usage c.args.usage.now (omega arith)
    (λ k lt.
    let lt_groups : k < length c.args.lineage.now.tree = omega arith in
    let e = c.take_down.ensures.taken k lt_groups in
    let counts = rw c.in-Some.is at c.loop-at.invariant.counts in
    let f = counts k lt_groups in
    omega (arith, e, f))

pub overflow_add-count : goal.overflow_add-count
overflow_add-count c =
    let there : c.in-Some.here.0 < length c.args.lineage.now.tree = rw c.in-Some.is at c.loop-at.invariant.there in
    let above : IsAbove c.args.lineage.now.tree (Some c.in-Some.here.0) (Some c.args.group.0) = rw c.in-Some.is at c.loop-at.invariant.above in
    let same = not_yet c.args.lineage.now.tree c.requires.tree.earlier_parents c.loop-at.usage c.args.usage.now c.args.group.0 c.in-Some.here.0 there above (rw c.in-Some.is at c.loop-at.invariant.counts) in
    let room = c.requires.room c.in-Some.here.0 there in
    omega (arith, same, room)

pub set_usage-requires-clause-live : goal.set_usage-requires-clause-live
set_usage-requires-clause-live c = rw c.in-Some.is at c.loop-at.invariant.live

pub set_usage-requires-clause-fits : goal.set_usage-requires-clause-fits
set_usage-requires-clause-fits c rises setting p child =
    let there : c.in-Some.here.0 < length c.args.lineage.now.tree = rw c.in-Some.is at c.loop-at.invariant.there in
    let falls = c.requires.tree.earlier_parents.falls c.in-Some.here.0 p (child_parent c.args.lineage.now.tree p c.in-Some.here.0 child) in
    let within : p < length c.args.lineage.now.tree = omega (arith, falls, there) in
    let room = c.requires.room p within in
    let most =
    children_min_usage-grown c.args.lineage.now.tree c.requires.tree.earlier_parents p setting (λ a. slice_index c.args.usage.now a) (λ a. slice_index (slice_set c.loop-at.usage c.in-Some.here.0 (slice_index c.loop-at.usage c.in-Some.here.0 + 1)) a) (Some c.args.group.0)
    (λ a lt. let e = added_more c.args.lineage.now.tree c.requires.tree.earlier_parents c.loop-at.usage c.args.usage.now c.args.group.0 c.in-Some.here.0 (omega arith) (rw c.in-Some.is at c.loop-at.invariant.counts) a lt in omega (arith, e)) (c.requires.within p within) in
    omega (arith, most, room)

pub loop-at-preserved : goal.loop-at-preserved
loop-at-preserved c =
    let there : c.in-Some.here.0 < length c.args.lineage.now.tree = rw c.in-Some.is at c.loop-at.invariant.there in
    let above : IsAbove c.args.lineage.now.tree (Some c.in-Some.here.0) (Some c.args.group.0) = rw c.in-Some.is at c.loop-at.invariant.above in
    let same = not_yet c.args.lineage.now.tree c.requires.tree.earlier_parents c.loop-at.usage c.args.usage.now c.args.group.0 c.in-Some.here.0 there above (rw c.in-Some.is at c.loop-at.invariant.counts) in
    rw c.parent-at.ensures.parent
    (record {
      there = parent_in c.args.lineage.now.tree c.requires.tree.earlier_parents c.in-Some.here.0 (length c.args.lineage.now.tree) there;
      live = live_parent c.args.lineage.now.tree c.requires.tree c.in-Some.here.0 (rw c.in-Some.is at c.loop-at.invariant.live);
      above = λ a. (let up = parent_above c.args.lineage.now.tree c.requires.tree.earlier_parents c.in-Some.here.0 a in let h = above a in omega (arith, up, h));
      counts =
          rw c.set_usage.ensures.usage
          (added_more c.args.lineage.now.tree c.requires.tree.earlier_parents c.loop-at.usage c.args.usage.now c.args.group.0 c.in-Some.here.0 (omega arith)
          (rw c.in-Some.is at c.loop-at.invariant.counts));
      over =
          sym (over_on c.args.lineage.now.tree c.requires.tree.earlier_parents c.loop-at.usage c.args.usage.now c.args.group.0 c.in-Some.here.0 c.args.limits.now _ (omega arith) same (sym c.is_full.ensures ∙ c.if-is_full.false))
          ∙ sym (ap (λ at. over_at c.args.lineage.now.tree c.args.limits.now (λ a. slice_index c.args.usage.now a) (number at)) c.in-Some.is) ∙ c.loop-at.invariant.over;
      kept = record { kept = c.set_usage.ensures.kept.kept; room = c.set_usage.ensures.kept.room ∙ c.loop-at.invariant.kept.room };
    })

pub returns-clause-under : goal.returns-clause-under
returns-clause-under c =
    sym c.loop-at.invariant.over ∙ ap (λ at. over_at c.args.lineage.now.tree c.args.limits.now (λ a. slice_index c.args.usage.now a) (number at)) c.in_default.is
    ∙ over_at-None c.args.lineage.now.tree c.requires.tree.earlier_parents c.args.limits.now (λ a. slice_index c.args.usage.now a)

pub returns-clause-charged : goal.returns-clause-charged
returns-clause-charged c a lt =
    let e = c.loop-at.invariant.counts a lt in
    let none = share-None c.args.lineage.now.tree c.requires.tree.earlier_parents a in
    let at_end : share c.args.lineage.now.tree a (number c.loop-at.at) ≡ 0 = rw c.in_default.is none in
    omega (arith, e, at_end)
