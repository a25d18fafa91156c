use Rattle.scenario_words.proofs.NameLemmas.{back, apart, kept}
use Rattle.scenario_words.proofs.names.names_stay_apart.Goals as goal

pub returns-clause-back : goal.returns-clause-back
returns-clause-back c = back

pub returns-clause-apart : goal.returns-clause-apart
returns-clause-apart c = apart

pub returns-clause-kept : goal.returns-clause-kept
returns-clause-kept c = kept
