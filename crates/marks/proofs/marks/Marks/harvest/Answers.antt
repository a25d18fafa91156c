use Rattle.std.proofs.Common.{rules}
use Rattle.marks.proofs.StepLemmas.{harvest_allowed}
use Rattle.marks.proofs.marks.Marks.harvest.Goals as goal

pub swap-requires : goal.swap-requires
swap-requires c = (search rules, search rules, harvest_allowed _ _ _ _ _ (search rules) (search rules))
