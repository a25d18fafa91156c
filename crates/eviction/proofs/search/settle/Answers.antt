use Rattle.std.proofs.Common.{refl, ap, ◌∙◌}
use Rattle.machine.specs.Generations.{Gens, on_row, raised}
use Rattle.machine.specs.Eviction.{settled_row}
use Rattle.lru_gen.specs.Gens.{gens_of}
use Rattle.aging.proofs.GroupLemmas.{change, only-same, only-then}
use Rattle.eviction.proofs.SettleLemmas.{settled-raised}
use Rattle.eviction.proofs.search.settle.Goals as goal

pub loop-group-init : goal.loop-group-init
loop-group-init c = record { same = refl; only = only-same c.args.group.0 c.args.gens.now; group = c.requires }

pub loop-group-preserved : goal.loop-group-preserved
loop-group-preserved c =
    let g = c.args.group.0 in
    let now : Gens = gens_of c.loop-group.gens g in
    let up = change g c.loop-group.gens c.raise_min.new.self (on_row c.args.kind raised now) c.loop-group.invariant.group c.raise_min.ensures.groups in
    record {
      same = ap (λ (x : Gens). on_row c.args.kind (settled_row x.max_seq) x) up.gens ∙ settled-raised c.args.kind now ∙ c.loop-group.invariant.same;
      only = only-then g c.args.gens.now c.loop-group.gens c.raise_min.new.self c.loop-group.invariant.only up.only;
      group = up.group;
    }
