use Rattle.std.proofs.Common.{◌+◌, ◌≤◌, arith, refl}
use Rattle.machine.specs.Generations.{row_of}
use Rattle.lru_gen.specs.Gens.{gens_of}
use Rattle.lru_gen.proofs.KindLemmas.{sound_row}
use Rattle.eviction.proofs.SettleLemmas.{none-old-of-two}
use Rattle.eviction.proofs.search.old_front.Goals as goal

pub returns-then-max_seq-min_seq-lt2-clause-page : goal.returns-then-max_seq-min_seq-lt2-clause-page
returns-then-max_seq-min_seq-lt2-clause-page c =
    let g = gens_of c.args.gens.now c.args.group.0 in
    let le : g.max_seq ≤ (row_of c.args.kind g).min_seq + 1 = omega arith in
    rw (none-old-of-two g.max_seq (row_of c.args.kind g) (sound_row (c.is_sound.ensures.gens.each c.args.group.0) c.args.kind) le) refl
