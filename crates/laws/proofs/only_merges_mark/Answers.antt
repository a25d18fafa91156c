use Rattle.laws.proofs.CallLemmas.{only_merges_mark}
use Rattle.laws.proofs.only_merges_mark.Goals as goal

pub returns : goal.returns
returns c = only_merges_mark
