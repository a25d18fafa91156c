use Rattle.std.proofs.Common.{◌∙◌, ap, sym}
use Rattle.std.specs.Prelude.{ℕ, List, slice_index}
use Rattle.spaces.proofs.GroupLemmas.{counted-group}
use Rattle.spaces.proofs.Spaces.add_group.Goals as goal

pub invariant_of-self : goal.invariant_of-self
invariant_of-self c =
    let h = c.self.invariant in
    let by_group = c.self.inside.by_group.items in
    record {
      within = h.within;
      as_many = h.as_many;
      living = h.living;
      grouped = λ g. h.grouped g ∙ sym (ap (λ (counts : List ℕ). slice_index counts g) c.push_reserved.ensures.items ∙ counted-group by_group g);
      whole = h.whole;
      counted = h.counted;
    }
