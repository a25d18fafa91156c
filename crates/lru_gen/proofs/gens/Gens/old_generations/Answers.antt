use Rattle.std.proofs.Common.{arith}
use Rattle.lru_gen.proofs.KindLemmas.{sound_row}
use Rattle.lru_gen.proofs.gens.Gens.old_generations.Goals as goal

pub overflow_sub-result : goal.overflow_sub-result
overflow_sub-result c =
    let row = sound_row (c.is_sound.ensures.gens.each c.args.group.0) c.args.kind in
    omega (arith, row.two)

pub overflow_sub-result-2 : goal.overflow_sub-result-2
overflow_sub-result-2 c =
    let row = sound_row (c.is_sound.ensures.gens.each c.args.group.0) c.args.kind in
    omega (arith, row.two)

pub returns : goal.returns
returns c =
    let row = sound_row (c.is_sound.ensures.gens.each c.args.group.0) c.args.kind in
    record { two = omega (arith, row.two); few = omega (arith, row.four) }
