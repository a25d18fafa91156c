use Rattle.laws.proofs.ShareLemmas.{removals_keep_ancestors_counts}
use Rattle.laws.proofs.removals_keep_ancestors_counts.Goals as goal

pub returns : goal.returns
returns c = removals_keep_ancestors_counts
