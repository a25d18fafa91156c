use Rattle.std.proofs.Common.{◌≡◌, ◌+◌, ℕ, slice_get, option_map, ap, ◌∙◌, arith}
use Rattle.machine.specs.Generations.{Row, Listed}
use Rattle.lru_gen.specs.Rows.{rows_from}
use Rattle.lru_gen.proofs.SeenLemmas.{group_seen, row_by_least}
use Rattle.lru_gen.proofs.gens.Gens.first.Goals as goal

pub first_from-requires : goal.first_from-requires
first_from-requires c =
    let h = group_seen c.self.view_is c.self.invariant c.requires in
    record { group = h.few; lists = h.lists_within; end = omega arith }

pub returns : goal.returns
returns c =
    let h = group_seen c.self.view_is c.self.invariant c.requires in
    let q = c.min_seq-oldest.result in
    let from : q + 0 ≡ q = omega arith in
    c.first_from.ensures
    ∙ ap (λ (s : ℕ). option_map (λ (l : Listed). l.page) (slice_get (rows_from c.self.inside.rings.lists c.args.group.0 c.args.kind s 4) 0)) from
    ∙ ap (λ (r : Row). option_map (λ (l : Listed). l.page) (slice_get r.pages 0)) (row_by_least h c.args.kind c.min_seq-oldest.ensures)
