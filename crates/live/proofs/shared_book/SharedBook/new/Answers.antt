use Rattle.std.proofs.Common.{rules, arith}
use Rattle.live.proofs.SharedLemmas.{shared-first}
use Rattle.live.proofs.shared_book.SharedBook.new.Goals as goal

pub invariant_of-result : goal.invariant_of-result
invariant_of-result g c = (shared-first g.L.Opened.table g.L.Opened.opening c.args.book c.args.log c.requires.fresh c.requires.log.0 c.requires.log.1 c.requires.log.2, search rules, search (rules, arith))
