use Rattle.machine.specs.Generations.{row_of}
use Rattle.lru_gen.specs.Gens.{gens_of}
use Rattle.lru_gen.proofs.SearchLemmas.{first_is_there, after_is_there}
use Rattle.leaves.proofs.lru_gen_tests.walk.Goals as goal

pub loop-init : goal.loop-init
loop-init c =
    first_is_there c.first-next.result (row_of c.args.kind (gens_of c.args.gens.now c.args.group.0)).pages c.first-next.ensures

pub loop-preserved : goal.loop-preserved
loop-preserved c =
    after_is_there c.after-next.result c.in-Some.page.0 (row_of c.args.kind (gens_of c.args.gens.now c.args.group.0)).pages c.after-next.ensures
