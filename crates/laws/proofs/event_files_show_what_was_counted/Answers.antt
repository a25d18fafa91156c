use Rattle.laws.proofs.LawLemmas.{events_are_those_counted}
use Rattle.laws.proofs.event_files_show_what_was_counted.Goals as goal

pub returns : goal.returns
returns c = events_are_those_counted
