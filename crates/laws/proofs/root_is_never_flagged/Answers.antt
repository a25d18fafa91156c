use Rattle.laws.proofs.SettingLemmas.{root_is_never_flagged}
use Rattle.laws.proofs.root_is_never_flagged.Goals as goal

pub returns : goal.returns
returns c = root_is_never_flagged
