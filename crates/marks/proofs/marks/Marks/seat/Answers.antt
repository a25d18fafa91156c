use Rattle.std.proofs.Common.{rules}
use Rattle.marks.proofs.SeatLemmas.{splits}
use Rattle.marks.proofs.marks.Marks.seat.Goals as goal

pub split_seat-inner-requires : goal.split_seat-inner-requires
split_seat-inner-requires c = (search rules, search rules, splits _ _ _ (search rules))
