use Rattle.std.proofs.Common.{subst}
use Rattle.lru_gen.specs.Gens.{GensOf, IsSound}
use Rattle.lru_gen.proofs.SoundLemmas.{in_a_ring, groups_are}
use Rattle.lru_gen.proofs.gens.Gens.is_sound.Goals as goal

pub returns : goal.returns
returns c =
    let lists = c.self.inside.rings.lists in
    let numbers = c.self.inside.numbers.items in
    subst (λ (v : GensOf). IsSound v) c.self.view_is (record {
      gens = groups_are lists numbers c.self.invariant.table c.lists_are_apart.ensures.apart;
      numbered = λ p listed. c.lists_are_apart.ensures.within p (in_a_ring lists numbers p listed);
    })
