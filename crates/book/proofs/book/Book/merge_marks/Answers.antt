use Rattle.book.proofs.CallLemmas.{book-merged, called-merged, past-merged}
use Rattle.book.proofs.book.Book.merge_marks.Goals as goal

pub invariant_of-self : goal.invariant_of-self
invariant_of-self c = book-merged c.self.inside c.merge_marks.new.self c.args.word c.args.bits c.merge_marks.ensures c.self.invariant

pub returns-clause-called : goal.returns-clause-called
returns-clause-called c = λ caller. rw (← c.self.view_is) (called-merged c.self.inside c.merge_marks.new.self c.args.word c.args.bits c.merge_marks.ensures c.self.invariant caller)

pub returns-clause-past : goal.returns-clause-past
returns-clause-past c = rw (← c.self.view_is) (past-merged c.self.inside c.merge_marks.new.self c.args.word c.args.bits c.merge_marks.ensures c.self.invariant)
