use Rattle.std.proofs.Common.{List}
use Rattle.orders.specs.Runs.{Run}
use Rattle.walks.specs.Walks.{Taken}
use Rattle.walks.proofs.sample.draw_run.Given as goal

abbrev pub invariant-loop-turn : goal.invariant-loop-turn
invariant-loop-turn g l = record {
  taken : Taken g.M.Machine.came l.machine l._turn;
  gathers : (runs : List Run) → g.M.Machine.gathered l.fn.machine runs → g.M.Machine.gathered l.machine runs;
  stays : g.M.Machine.stays l.fn.machine l.machine;
}
