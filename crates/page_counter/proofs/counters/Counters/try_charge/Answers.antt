use Rattle.std.proofs.Common.{◌<◌, ◌∷◌, length, refl, ap, ◌∙◌, arith}
use Rattle.std.proofs.lemmas.List.{with_items_is}
use Rattle.page_counter.specs.Counts.{usage_of}
use Rattle.page_counter.specs.Tables.{counts_of}
use Rattle.page_counter.proofs.ChargeLemmas.{AreCounts-charge}
use Rattle.page_counter.proofs.ChildLemmas.{children_usage-le}
use Rattle.page_counter.proofs.RootLemmas.{root_counts_most}
use Rattle.page_counter.proofs.WriteLemmas.{Charges-added, IsCounted-counts}
use Rattle.page_counter.proofs.counters.Counters.try_charge.Goals as goal

pub add_up-requires-clause-room : goal.add_up-requires-clause-room
add_up-requires-clause-room c =
    let room : usage_of (counts_of c.self.inside) 0 < 18446744073709551615 = rw (← c.self.view_is) at c.requires.room in
    rw c.as_mut_slice-usage.ensures.value
    (λ a lt. let most = root_counts_most (counts_of c.self.inside) c.self.invariant.tables.charges c.is_lineage.ensures c.self.invariant.tables.counted a lt in omega (arith, most, room))

pub add_up-requires-clause-within : goal.add_up-requires-clause-within
add_up-requires-clause-within c =
    rw c.as_mut_slice-usage.ensures.value (λ a lt. children_usage-le (counts_of c.self.inside) c.self.invariant.tables.charges c.is_lineage.ensures.earlier_parents c.self.invariant.tables.counted a lt)

pub add_up-requires-clause-kept : goal.add_up-requires-clause-kept
add_up-requires-clause-kept c = rw (c.deref.ensures.value, c.as_mut_slice-usage.ensures.value) c.self.invariant.sums

pub invariant_of-self : goal.invariant_of-self
invariant_of-self c =
    let items = with_items_is c.self.inside.usage c.add_up.new.usage (omega arith) in
    record {
      tables = rw (items ∙ c.in_err-add_up.ensures.err ∙ c.as_mut_slice-usage.ensures.value, c.in_err-add_up.ensures.kept.room) c.self.invariant.tables;
      sums = rw items (rw c.deref.ensures.value at c.in_err-add_up.ensures.kept).kept;
    }

pub invariant_of-self-2 : goal.invariant_of-self-2
invariant_of-self-2 c =
    let items = with_items_is c.self.inside.usage c.add_up.new.usage (omega arith) in
    let len = ap length items in
    record {
      tables =
          rw c.in_ok-add_up.ensures.kept.room
          (IsCounted-counts (counts_of c.self.inside) _ (c.args.group.0 ∷ c.self.invariant.tables.charges) c.self.invariant.tables (record { tree = refl; limits = refl; room = refl }) (omega (arith, len))
          (AreCounts-charge _ _ c.args.group.0 c.self.invariant.tables.charges c.is_lineage.ensures.earlier_parents (rw (← c.self.view_is) at c.requires.live)
          (Charges-added _ c.add_up.new.usage _ c.args.group.0 items (rw c.as_mut_slice-usage.ensures.value at c.in_ok-add_up.ensures.charged)) c.self.invariant.tables.counted));
      sums = rw items (rw c.deref.ensures.value at c.in_ok-add_up.ensures.kept).kept;
    }

pub returns-clause-counted : goal.returns-clause-counted
returns-clause-counted c =
    let items = with_items_is c.self.inside.usage c.add_up.new.usage (omega arith) in
    rw (← c.self.view_is, c.in_ok-add_up.ensures.kept.room)
    (λ charges counted.
    AreCounts-charge _ _ c.args.group.0 charges c.is_lineage.ensures.earlier_parents (rw (← c.self.view_is) at c.requires.live)
    (Charges-added _ c.add_up.new.usage _ c.args.group.0 items (rw c.as_mut_slice-usage.ensures.value at c.in_ok-add_up.ensures.charged)) counted)
