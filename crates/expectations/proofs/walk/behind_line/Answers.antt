use Rattle.expectations.proofs.StepLemmas.{line_behind}
use Rattle.expectations.proofs.walk.behind_line.Goals as goal

pub returns-in-Some : goal.returns-in-Some
returns-in-Some c = line_behind c.args.output.now c.args.text.now c.in-Some.rest.now c.behind-in-Some.result c.in-Some.ensures c.behind-in-Some.ensures
