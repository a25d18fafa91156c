use Rattle.laws.proofs.ShareLemmas.{removed_groups_have_no_pages}
use Rattle.laws.proofs.removed_groups_have_no_pages.Goals as goal

pub returns : goal.returns
returns c = removed_groups_have_no_pages
