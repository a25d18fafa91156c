use Rattle.live.proofs.SharedLemmas.{gathers-one}
use Rattle.live.proofs.pass.Pass.gather_word.Goals as goal

pub returns-then-bits-ne0-clause-book : goal.returns-then-bits-ne0-clause-book
returns-then-bits-ne0-clause-book g c = gathers-one c.args.book.now c.self.inside.pass c.args.word c.take-bits.result c.call.result c.call.new.self c.call.ensures.replies c.call.ensures.called
