use Rattle.driver.proofs.marked.MarkedBook.history_is_right.Goals as goal

pub returns-clause-right : goal.returns-clause-right
returns-clause-right c = rw (← c.self.view_is) c.history_is_right.ensures.right
