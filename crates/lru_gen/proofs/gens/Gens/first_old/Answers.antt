use Rattle.std.proofs.Common.{◌≡◌, ℕ, ◌+◌, ◌-◌, List, slice_get, option_map, ap, ◌∙◌, arith}
use Rattle.machine.specs.Generations.{Listed}
use Rattle.lru_gen.specs.Rows.{rows_from}
use Rattle.lru_gen.proofs.SeenLemmas.{group_seen, old_by_least}
use Rattle.lru_gen.proofs.gens.Gens.first_old.Goals as goal

pub first_from-requires : goal.first_from-requires
first_from-requires c =
    let h = group_seen c.self.view_is c.self.invariant c.requires in
    record { group = h.few; lists = h.lists_within; end = omega arith }

pub returns : goal.returns
returns c =
    let h = group_seen c.self.view_is c.self.invariant c.requires in
    let lists = c.self.inside.rings.lists in
    let q = c.min_seq-oldest.result in
    let old = c.old_generations-old.result in
    let from : q + 0 ≡ q = omega arith in
    let all : old - 0 ≡ old = omega arith in
    c.first_from.ensures
    ∙ ap (λ (s : ℕ). option_map (λ (l : Listed). l.page) (slice_get (rows_from lists c.args.group.0 c.args.kind s (old - 0)) 0)) from
    ∙ ap (λ (n : ℕ). option_map (λ (l : Listed). l.page) (slice_get (rows_from lists c.args.group.0 c.args.kind q n) 0)) all
    ∙ ap (λ (rs : List Listed). option_map (λ (l : Listed). l.page) (slice_get rs 0)) (old_by_least h c.args.kind old c.min_seq-oldest.ensures c.old_generations-old.ensures.two c.old_generations-old.ensures.few)
