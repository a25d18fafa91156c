use Rattle.laws.proofs.ReclaimLemmas.{only_clean_pages_are_dropped}
use Rattle.laws.proofs.only_clean_pages_are_dropped.Goals as goal

pub returns : goal.returns
returns c = only_clean_pages_are_dropped
