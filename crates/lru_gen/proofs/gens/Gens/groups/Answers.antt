use Rattle.std.proofs.Common.{length, ap, arith}
use Rattle.lru_gen.specs.Gens.{GensOf}
use Rattle.lru_gen.proofs.GroupLemmas.{length_groups}
use Rattle.lru_gen.proofs.gens.Gens.groups.Goals as goal

pub returns : goal.returns
returns c =
    let size = c.self.inside.numbers.ok.0 in
    let many = length_groups c.self.inside.rings.lists 0 c.self.inside.numbers.items in
    let seen = ap (λ (v : GensOf). length v.groups) c.self.view_is in
    omega (arith, c.len.ensures)
