use Rattle.scenario_lines.proofs.MarkLemmas.{raised}
use Rattle.scenario_lines.proofs.marks.write_raises.Goals as goal

pub returns : goal.returns
returns c = raised c.args.mark c.args.pages c.requires
