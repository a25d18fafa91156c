use Rattle.scenario_lines.proofs.RoundingLemmas.{halved}
use Rattle.scenario_lines.proofs.rounded.halves.Goals as goal

pub returns : goal.returns
returns c = halved c.args.text.now c.split_once.result c.split_once.ensures.cases
