use Rattle.laws.proofs.SettingLemmas.{only_sets_change_settings}
use Rattle.laws.proofs.only_sets_change_settings.Goals as goal

pub returns : goal.returns
returns c = only_sets_change_settings
