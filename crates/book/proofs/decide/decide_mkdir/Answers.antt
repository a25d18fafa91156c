use Rattle.machine.specs.Refusals.{bars_children}
use Rattle.book.proofs.decide.decide_mkdir.Goals as goal

pub returns-in-Err : goal.returns-in-Err
returns-in-Err c = rw (← c.tree.ensures) (c.in-Err.ensures.err (bars_children c.args.state.now.tables.tasks))
