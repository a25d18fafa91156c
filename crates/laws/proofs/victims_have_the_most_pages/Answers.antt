use Rattle.laws.proofs.KillLemmas.{victims_have_the_most_pages}
use Rattle.laws.proofs.victims_have_the_most_pages.Goals as goal

pub returns : goal.returns
returns c = victims_have_the_most_pages
