use Rattle.scenarios.proofs.SizeLemmas.{floor, ceiling}
use Rattle.scenarios.proofs.sizes.pages_are_the_nearest.Goals as goal

pub returns-clause-down : goal.returns-clause-down
returns-clause-down c = λ s page some proper. floor s page some proper

pub returns-clause-up : goal.returns-clause-up
returns-clause-up c = λ s page some proper. ceiling s page some proper
