use Rattle.std.proofs.Common.{◌≡◌, length, refl, arith}
use Rattle.std.proofs.lemmas.List.{length-reverse}
use Rattle.book.proofs.CallLemmas.{history_of}
use Rattle.book.proofs.book.Book.is_full.Goals as goal

pub returns : goal.returns
returns c =
    let b = c.self.inside in
    let count : c.len.result ≡ length (history_of b) = (let len = c.len.ensures in let same = length-reverse b.trace.entries in omega (arith, len, same)) in
    rw (← c.self.view_is) (rw (c.limit.ensures, count, c.transfers.ensures) refl)
