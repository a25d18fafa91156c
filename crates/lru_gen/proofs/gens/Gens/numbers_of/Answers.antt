use Rattle.std.proofs.Common.{ap, ◌∙◌, arith}
use Rattle.lru_gen.specs.declared.numbers.Numbers.{Numbers}
use Rattle.lru_gen.specs.Rows.{oldest}
use Rattle.lru_gen.proofs.SeenLemmas.{group_seen, numbers_read, least, most}
use Rattle.lru_gen.proofs.gens.Gens.numbers_of.Goals as goal

pub index-requires : goal.index-requires
index-requires c =
    let h = group_seen c.self.view_is c.self.invariant c.requires in
    let size = c.self.inside.numbers.ok.0 in
    omega (arith, h.within, size)

pub returns-clause-youngest : goal.returns-clause-youngest
returns-clause-youngest c =
    let h = group_seen c.self.view_is c.self.invariant c.requires in
    ap (λ (n : Numbers). n.max_seq) (numbers_read h c.index.ensures) ∙ most h

pub returns-clause-oldest : goal.returns-clause-oldest
returns-clause-oldest c kind =
    let h = group_seen c.self.view_is c.self.invariant c.requires in
    ap (oldest kind) (numbers_read h c.index.ensures) ∙ least h kind
