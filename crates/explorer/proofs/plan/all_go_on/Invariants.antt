use Rattle.std.proofs.Common.{◌≡◌, length}
use Rattle.explorer.specs.Carried.{GoesAll}
use Rattle.explorer.proofs.plan.all_go_on.Given as goal

abbrev pub invariant-loop-place : goal.invariant-loop-place
invariant-loop-place l = record {
  counted : length l.begun.items ≡ length l.fn.begun.items;
  goes : GoesAll l.rows l.place l.fn.run l.fn.begun.items l.fn.said.items l.run l.begun.items l.said.items;
}
