use Rattle.book.proofs.CarryLemmas.{carries-set}
use Rattle.book.proofs.apply.set.Goals as goal

pub returns : goal.returns
returns c = carries-set c.args.state.now c.set.new.self c.args.group c.args.setting c.is_joined.ensures.listed c.set.ensures
