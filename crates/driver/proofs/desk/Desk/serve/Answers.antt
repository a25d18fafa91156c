use Rattle.driver.specs.Desks.{blocks_of_desk, worker_of_desk}
use Rattle.driver.proofs.desk.Desk.serve.Goals as goal

pub ask_book-requires-clause-own : goal.ask_book-requires-clause-own
ask_book-requires-clause-own g c = c.in-Call.ensures.own (worker_of_desk c.args.self.now) (blocks_of_desk c.args.self.now) c.requires.own
