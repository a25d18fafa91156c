use Rattle.std.proofs.Common.{◌≡◌, ◌∷◌, ℕ, List, Option, length-set, arith, refl, Some, sym, ap, ◌∙◌}
use Rattle.std.proofs.lemmas.List.{with_items_is}
use Rattle.machine.specs.declared.id.GroupId.{GroupId}
use Rattle.machine.specs.Tree.{Node, node_at}
use Rattle.group_tree.specs.Tables.{number}
use Rattle.page_counter.specs.Tables.{counts_of}
use Rattle.page_counter.proofs.ChargeLemmas.{live-out, AreCounts-reparent}
use Rattle.page_counter.proofs.WriteLemmas.{MovesUp-set, counts_one, IsCounted-counts}
use Rattle.page_counter.proofs.counters.Counters.reparent.Goals as goal

moved_to : (tree : List Node) (g i n : ℕ) (at : Option GroupId) (p : GroupId) → i ≡ g → number at ≡ (node_at tree i).parent → at ≡ Some p → n ≡ p.0 → (node_at tree g).parent ≡ Some n
moved_to tree g i n at p is parent found told = ap (λ k. (node_at tree k).parent) (sym is) ∙ sym parent ∙ ap number found ∙ ap Some (sym told)

pub overflow_sub-fewer : goal.overflow_sub-fewer
overflow_sub-fewer c =
    rw (c.as_mut_slice-usage.ensures.value, c.into_group-group.ensures) (counts_one (counts_of c.self.inside) c.args.charge c.parent.ensures.lineage.earlier_parents c.self.invariant.tables.usage_length (rw (← c.self.view_is) at c.requires.out))

pub set_usage-requires-clause-live : goal.set_usage-requires-clause-live
set_usage-requires-clause-live c = rw c.into_group-group.ensures (live-out (counts_of c.self.inside) c.args.charge (rw (← c.self.view_is) at c.requires.out))

pub set_usage-requires-clause-fits : goal.set_usage-requires-clause-fits
set_usage-requires-clause-fits c more = absurd (omega (arith, more))

pub set_usage-requires-clause-kept : goal.set_usage-requires-clause-kept
set_usage-requires-clause-kept c = rw (c.deref.ensures.value, c.as_mut_slice-usage.ensures.value) c.self.invariant.sums

pub invariant_of-self : goal.invariant_of-self
invariant_of-self c =
    let out = rw (← c.self.view_is) at c.requires.out in
    let items = with_items_is c.self.inside.usage c.set_usage.new.usage (omega arith) in
    let written = items ∙ (rw (c.as_mut_slice-usage.ensures.value, c.into_group-group.ensures) at c.set_usage.ensures.usage) in
    record {
      tables =
          rw (written, c.set_usage.ensures.kept.room)
          (IsCounted-counts (counts_of c.self.inside) _ (c.new.result ∷ out.others) c.self.invariant.tables (record { tree = refl; limits = refl; room = refl }) (length-set _ _ _)
          (AreCounts-reparent _ _ c.args.charge c.new.result out.others c.parent.ensures.lineage (moved_to c.self.inside.lineage.tree _ _ _ c.parent.result c.in-Some.parent c.into_group-group.ensures c.parent.ensures.parent c.in-Some.is c.new.ensures)
          (MovesUp-set _ c.args.charge c.parent.ensures.lineage.earlier_parents c.self.invariant.tables.usage_length out) out.counted));
      sums = rw items (rw c.deref.ensures.value at c.set_usage.ensures.kept).kept;
    }

pub returns-clause-moved : goal.returns-clause-moved
returns-clause-moved c =
    let items = with_items_is c.self.inside.usage c.set_usage.new.usage (omega arith) in
    let written = items ∙ (rw (c.as_mut_slice-usage.ensures.value, c.into_group-group.ensures) at c.set_usage.ensures.usage) in
    rw (← c.self.view_is, written, c.set_usage.ensures.kept.room)
    (MovesUp-set _ c.args.charge c.parent.ensures.lineage.earlier_parents c.self.invariant.tables.usage_length (rw (← c.self.view_is) at c.requires.out))

pub returns-clause-counted : goal.returns-clause-counted
returns-clause-counted c =
    let items = with_items_is c.self.inside.usage c.set_usage.new.usage (omega arith) in
    let written = items ∙ (rw (c.as_mut_slice-usage.ensures.value, c.into_group-group.ensures) at c.set_usage.ensures.usage) in
    rw (← c.self.view_is, written, c.set_usage.ensures.kept.room)
    (λ rest counted.
    AreCounts-reparent _ _ c.args.charge c.new.result rest c.parent.ensures.lineage (moved_to c.self.inside.lineage.tree _ _ _ c.parent.result c.in-Some.parent c.into_group-group.ensures c.parent.ensures.parent c.in-Some.is c.new.ensures)
    (MovesUp-set _ c.args.charge c.parent.ensures.lineage.earlier_parents c.self.invariant.tables.usage_length (rw (← c.self.view_is) at c.requires.out)) counted)
