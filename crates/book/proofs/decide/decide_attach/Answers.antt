use Rattle.std.proofs.Common.{rules}
use Rattle.book.proofs.decide.decide_attach.Goals as goal
use Rattle.book.proofs.decide.decide_attach.Goals.{in_default-via-in-Ok+in_default, in_default-via-in_default}

pub returns-in_default : goal.returns-in_default
returns-in_default c = elim c.in_default.branch [ in_default-via-in-Ok+in_default w ↦ search rules | in_default-via-in_default w ↦ search rules ]
