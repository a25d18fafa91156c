use Rattle.std.proofs.Common.{None, lit<}
use Rattle.std.proofs.lemmas.Str.Pattern.{strip_prefix_char}
use Rattle.scenario_words.proofs.BracketLemmas.{no_point}
use Rattle.scenario_words.proofs.task_names.number_behind_point.Goals as goal

pub returns-in-None : goal.returns-in-None
returns-in-None c = no_point c.args.rest.now (strip_prefix_char 46 c.args.rest.now None c.in-None.ensures.cases (lit< tt))
