use Rattle.std.proofs.Common.{ℕ, slice_get, ap, ◌∙◌}
use Rattle.machine.specs.Generations.{front_of}
use Rattle.rings.specs.Rings.{list_at}
use Rattle.lru_gen.proofs.RowLemmas.{oldest_first}
use Rattle.lru_gen.proofs.SeenLemmas.{group_seen, row_by_least, list_among}
use Rattle.lru_gen.proofs.gens.Gens.front.Goals as goal

pub list_of-requires : goal.list_of-requires
list_of-requires c = (group_seen c.self.view_is c.self.invariant c.requires).few

pub front-requires : goal.front-requires
front-requires c = list_among (group_seen c.self.view_is c.self.invariant c.requires) _ _ c.list_of.ensures

pub returns : goal.returns
returns c =
    let lists = c.self.inside.rings.lists in
    let h = group_seen c.self.view_is c.self.invariant c.requires in
    c.front.ensures
    ∙ ap (λ (l : ℕ). slice_get (list_at lists l) 0) c.list_of.ensures
    ∙ oldest_first c.args.group.0 c.args.kind lists c.min_seq-oldest.result 3
    ∙ ap front_of (row_by_least h c.args.kind c.min_seq-oldest.ensures)
