use Rattle.laws.proofs.Legals.{runs_are_legal}
use Rattle.laws.proofs.runs_are_legal.Goals as goal

pub returns : goal.returns
returns c = runs_are_legal
