use Rattle.driver.proofs.ErrorLemmas.{each_failure_is_answered}
use Rattle.laws.proofs.each_failure_is_answered.Goals as goal

pub returns : goal.returns
returns c = each_failure_is_answered
