use Rattle.std.proofs.Common.{ap, ◌∙◌, arith}
use Rattle.machine.specs.Generations.{gens_at}
use Rattle.machine.specs.Eviction.{has_usable}
use Rattle.lru_gen.specs.Gens.{GensOf, gens_of}
use Rattle.lru_gen.specs.Rows.{groups_from}
use Rattle.lru_gen.specs.Filled.{usable}
use Rattle.lru_gen.proofs.FilledLemmas.{usable_told}
use Rattle.lru_gen.proofs.SeenLemmas.{group_seen, filled_read}
use Rattle.lru_gen.proofs.gens.Gens.has_usable.Goals as goal

pub index-requires : goal.index-requires
index-requires c =
    let h = group_seen c.self.view_is c.self.invariant c.requires in
    let size = c.self.inside.filled.ok.0 in
    omega (arith, h.told, size)

pub returns : goal.returns
returns c =
    let h = group_seen c.self.view_is c.self.invariant c.requires in
    let swap = c.args.swap_free in
    c.has_usable.ensures
    ∙ ap (usable swap) (filled_read h c.index.ensures)
    ∙ usable_told _ (gens_at (groups_from c.self.inside.rings.lists 0 c.self.inside.numbers.items) c.args.group.0) (c.self.invariant.flags.told c.args.group.0) swap
    ∙ ap (λ (v : GensOf). has_usable swap (gens_of v c.args.group.0)) c.self.view_is
