use Rattle.std.proofs.Common.{sym, ◌∙◌}
use Rattle.scenarios.proofs.PartLemmas.{around_dots}
use Rattle.scenarios.proofs.parts.split_dots.Goals as goal

pub range-requires-clause-end_boundary : goal.range-requires-clause-end_boundary
range-requires-clause-end_boundary c = (around_dots c.args.word.now c.in-Some.at c.utf8.word (sym c.first_dots.ensures ∙ c.in-Some.is)).0

pub range_from-requires : goal.range_from-requires
range_from-requires c = λ _. (around_dots c.args.word.now c.in-Some.at c.utf8.word (sym c.first_dots.ensures ∙ c.in-Some.is)).1
