use Rattle.std.proofs.Common.{length, refl, ap, arith}
use Rattle.std.proofs.lemmas.List.{with_items_is}
use Rattle.machine.proofs.TreeLemmas.{share-None}
use Rattle.page_counter.specs.Tables.{counts_of}
use Rattle.page_counter.proofs.ChargeLemmas.{AreCounts-uncharge, share-counted}
use Rattle.page_counter.proofs.WriteLemmas.{Charges-taken, IsCounted-counts}
use Rattle.page_counter.proofs.counters.Counters.uncharge.Goals as goal

pub take_down-requires-clause-above : goal.take_down-requires-clause-above
take_down-requires-clause-above c a = let none = share-None c.self.inside.lineage.tree c.is_lineage.ensures.earlier_parents a in omega (arith, none)

pub take_down-requires-clause-counted : goal.take_down-requires-clause-counted
take_down-requires-clause-counted c =
    rw (c.into_group-group.ensures, c.as_mut_slice-usage.ensures.value)
    (λ a lt. let counted = share-counted _ c.args.charge c.is_lineage.ensures.earlier_parents (rw (← c.self.view_is) at c.requires.out) a lt in omega (arith, counted))

pub take_down-requires-clause-kept : goal.take_down-requires-clause-kept
take_down-requires-clause-kept c = rw (c.deref.ensures.value, c.as_mut_slice-usage.ensures.value) c.self.invariant.sums

pub invariant_of-self : goal.invariant_of-self
invariant_of-self c =
    let out = rw (← c.self.view_is) at c.requires.out in
    let items = with_items_is c.self.inside.usage c.take_down.new.usage (omega arith) in
    let len = ap length items in
    record {
      tables =
          rw c.take_down.ensures.kept.room
          (IsCounted-counts (counts_of c.self.inside) _ out.others c.self.invariant.tables (record { tree = refl; limits = refl; room = refl }) (omega (arith, len))
          (AreCounts-uncharge _ _ c.args.charge out.others c.is_lineage.ensures.earlier_parents
          (Charges-taken _ c.take_down.new.usage _ c.args.charge c.is_lineage.ensures.earlier_parents items (rw (c.into_group-group.ensures, c.as_mut_slice-usage.ensures.value) at c.take_down.ensures.taken)) out.counted));
      sums = rw items (rw c.deref.ensures.value at c.take_down.ensures.kept).kept;
    }

pub returns-clause-uncharged : goal.returns-clause-uncharged
returns-clause-uncharged c =
    let items = with_items_is c.self.inside.usage c.take_down.new.usage (omega arith) in
    rw (← c.self.view_is, c.take_down.ensures.kept.room)
    (Charges-taken _ c.take_down.new.usage _ c.args.charge c.is_lineage.ensures.earlier_parents items (rw (c.into_group-group.ensures, c.as_mut_slice-usage.ensures.value) at c.take_down.ensures.taken))

pub returns-clause-counted : goal.returns-clause-counted
returns-clause-counted c =
    let items = with_items_is c.self.inside.usage c.take_down.new.usage (omega arith) in
    rw (← c.self.view_is, c.take_down.ensures.kept.room)
    (λ rest counted.
    AreCounts-uncharge _ _ c.args.charge rest c.is_lineage.ensures.earlier_parents
    (Charges-taken _ c.take_down.new.usage _ c.args.charge c.is_lineage.ensures.earlier_parents items (rw (c.into_group-group.ensures, c.as_mut_slice-usage.ensures.value) at c.take_down.ensures.taken)) counted)
