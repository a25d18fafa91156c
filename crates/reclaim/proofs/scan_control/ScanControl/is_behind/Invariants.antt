use Rattle.std.proofs.Common.{◌≡◌, ◌==◌}
use Rattle.std.specs.List.{list_any}
use Rattle.machine.specs.Order.{is_behind}
use Rattle.group_tree.specs.Tables.{number}
use Rattle.reclaim.proofs.scan_control.ScanControl.is_behind.Given as goal

abbrev pub invariant-loop-other : goal.invariant-loop-other
invariant-loop-other l =
    list_any (λ a. a == l.group.0) l.other-iterator ≡ is_behind l.self.protection.tree.now l.self.protection.target.0 (number l.fn.last) l.group.0
