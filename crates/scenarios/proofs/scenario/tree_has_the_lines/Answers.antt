use Rattle.scenarios.proofs.TreeLemmas.{tree_has_the_lines, tree_is_formed}
use Rattle.scenarios.proofs.scenario.tree_has_the_lines.Goals as goal

pub returns-clause-lines : goal.returns-clause-lines
returns-clause-lines c = λ text ls e. tree_has_the_lines text ls e

pub returns-clause-blocks : goal.returns-clause-blocks
returns-clause-blocks c = λ text ls e. tree_is_formed text ls e
