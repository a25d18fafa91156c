use Rattle.std.proofs.Common.{refl}
use Rattle.spaces.proofs.page_table.PageTable.new.Goals as goal

pub returns : goal.returns
returns c = let none = c.in_ok-places.ensures.items in rw none refl
