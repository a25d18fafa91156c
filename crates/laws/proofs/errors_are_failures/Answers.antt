use Rattle.driver.proofs.ErrorLemmas.{errors_are_failures}
use Rattle.laws.proofs.errors_are_failures.Goals as goal

pub returns : goal.returns
returns c = errors_are_failures
