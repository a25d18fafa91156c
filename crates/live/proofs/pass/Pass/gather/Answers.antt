use Rattle.std.proofs.Common.{rules}
use Rattle.live.proofs.SharedLemmas.{gathers-more}
use Rattle.live.proofs.pass.Pass.gather.Goals as goal

pub loop-word-preserved : goal.loop-word-preserved
loop-word-preserved g c = (search rules, gathers-more c.args.book.now c.loop-word.book c.gather_word.new.book c.loop-word.invariant.1 c.gather_word.ensures.book)
