use Rattle.std.proofs.Common.{◌≡◌}
use Rattle.machine.specs.Order.{least_of, greatest_of}
use Rattle.machine.specs.Tree.{preorder}
use Rattle.page_counter.specs.Counts.{usage_of}
use Rattle.reclaim.specs.Pass.{gives_by}
use Rattle.reclaim.specs.Walk.{AreAsked}
use Rattle.reclaim.proofs.scan_control.ScanControl.sizes_given.Given as goal

abbrev pub invariant-loop-group : goal.invariant-loop-group
invariant-loop-group l =
    record {
      asked : AreAsked l.self.protection.tree.now l.self.protection.target.0 l.group-iterator;
      least :
          least_of (gives_by l.self l.low_reclaim) (usage_of l.self.protection.counters.now) l.group-iterator l.least
          ≡ least_of (gives_by l.self l.low_reclaim) (usage_of l.self.protection.counters.now) (preorder l.self.protection.tree.now l.self.protection.target.0) l.size;
      greatest :
          greatest_of (gives_by l.self l.low_reclaim) (usage_of l.self.protection.counters.now) l.group-iterator l.greatest
          ≡ greatest_of (gives_by l.self l.low_reclaim) (usage_of l.self.protection.counters.now) (preorder l.self.protection.tree.now l.self.protection.target.0) l.size;
    }
