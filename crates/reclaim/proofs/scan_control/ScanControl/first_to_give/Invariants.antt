use Rattle.std.proofs.Common.{◌≡◌}
use Rattle.std.specs.Prelude.{find}
use Rattle.group_tree.specs.Tables.{number}
use Rattle.reclaim.specs.Pass.{asked_by}
use Rattle.reclaim.specs.Walk.{up_to, AreAsked}
use Rattle.reclaim.proofs.scan_control.ScanControl.first_to_give.Given as goal

abbrev pub invariant-loop-group : goal.invariant-loop-group
invariant-loop-group l = record {
  asked : AreAsked l.self.protection.tree.now l.self.protection.target.0 l.group-iterator;
  same :
      find (asked_by l.self l.old_files l.low_reclaim) (up_to l.group-iterator (number l.last))
      ≡ find (asked_by l.self l.old_files l.low_reclaim) (up_to l.fn.walk (number l.last));
}
