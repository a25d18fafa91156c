use Rattle.std.proofs.Common.{None, lit<, ◌∙◌}
use Rattle.std.proofs.lemmas.Str.Pattern.{strip_prefix_char}
use Rattle.scenario_words.specs.Paths.{path_in}
use Rattle.scenario_words.proofs.PathLemmas.{no_path}
use Rattle.scenario_words.proofs.paths.path_of.Goals as goal

pub returns-in-None : goal.returns-in-None
unfolding path_in
returns-in-None c = rw c.fault.ensures (no_path c.args.word.now c.args.word.now.text (λ rest e. strip_prefix_char 47 c.text.result.now None c.in-None.ensures.cases (lit< tt) rest (c.text.ensures ∙ e)))
