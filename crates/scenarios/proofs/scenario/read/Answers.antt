use Rattle.std.proofs.Common.{◌≡◌, ◌+◌, length, sym, ap, ◌∙◌, rules}
use Rattle.scenarios.specs.Building.{rest_of}
use Rattle.scenarios.proofs.BlockLemmas.{nothing_left, reads_same}
use Rattle.scenarios.proofs.scenario.read.Goals as goal

pub returns : goal.returns
returns c =
    let empty : length c.loop-rest.rest.now ≡ 0 = search rules in
    reads_same _ c.into_scenario.result _ _ (ap (rest_of c.loop-rest.reading (c.loop-rest.number + 1)) (sym (nothing_left c.loop-rest.rest.now empty)) ∙ c.loop-rest.invariant.0) (c.into_scenario.ensures (c.loop-rest.number + 1))
