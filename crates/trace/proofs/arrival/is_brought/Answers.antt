use Rattle.std.proofs.Common.{◌<◌, ◌≤◌, length, arith}
use Rattle.trace.specs.Walks.{page_at}
use Rattle.trace.proofs.LinkLemmas.{own-stand}
use Rattle.trace.proofs.arrival.is_brought.Goals as goal

pub is_last-requires-clause-stand : goal.is_last-requires-clause-stand
is_last-requires-clause-stand c =
    let low : c.in-Some.read_in.at < c.args.end = c.in-Some.ensures.within in
    let within : c.args.end ≤ length c.args.trace.now.entries = c.requires.within in
    own-stand c.args.trace.now.entries c.in-Some.read_in.at c.page_of.result (page_at c.in-Some.read_in.access.task c.in-Some.read_in.access.place) c.link.result c.link.ensures
    (omega arith) c.in-Some.ensures.own c.page_of.ensures.page
