use Rattle.std.proofs.Common.{◌≡◌, List, length}
use Rattle.orders.specs.Course.{taken}
use Rattle.orders.specs.Runs.{Run, turns, IsWalk}
use Rattle.walks.proofs.run.Given as goal

abbrev pub invariant-loop-turn : goal.invariant-loop-turn
invariant-loop-turn g l = record {
  comes : g.M.Machine.came l.machine (turns l.orders);
  counted : length (taken l.orders) ≡ l._turn;
  walks : (runs : List Run) → IsWalk l.depth runs l.fn.orders → IsWalk l.depth runs l.orders;
  gathers : (runs : List Run) → g.M.Machine.gathered l.fn.machine runs → g.M.Machine.gathered l.machine runs;
  stays : g.M.Machine.stays l.fn.machine l.machine;
}
