use Rattle.laws.proofs.CallLemmas.{merges_change_marks_alone}
use Rattle.laws.proofs.merges_change_marks_alone.Goals as goal

pub returns : goal.returns
returns c = merges_change_marks_alone
