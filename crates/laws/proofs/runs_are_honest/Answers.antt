use Rattle.driver.proofs.Faithful.{runs_are_honest}
use Rattle.laws.proofs.runs_are_honest.Goals as goal

pub returns : goal.returns
returns c = runs_are_honest
