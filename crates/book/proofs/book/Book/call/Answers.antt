use Rattle.book.proofs.book.Book.call.Goals as goal

pub returns-in-Access-clause-reads : goal.returns-in-Access-clause-reads
returns-in-Access-clause-reads c = rw c.in-Access.is c.serve.ensures.reads
