use Rattle.std.proofs.Common.{◌≡◌, ◌<◌, ◌-◌, length}
use Rattle.machine.specs.Generations.{row_of, on_row}
use Rattle.machine.specs.Eviction.{settled_row}
use Rattle.lru_gen.specs.Gens.{gens_of}
use Rattle.aging.specs.Groups.{ChangesOnly}
use Rattle.eviction.proofs.search.settle.Given as goal

abbrev pub invariant-loop-group : goal.invariant-loop-group
invariant-loop-group l = record {
  same :
      on_row l.kind (settled_row (gens_of l.gens l.group.0).max_seq) (gens_of l.gens l.group.0)
      ≡ on_row l.fn.kind (settled_row (gens_of l.fn.gens l.fn.group.0).max_seq) (gens_of l.fn.gens l.fn.group.0);
  only : ChangesOnly l.fn.group.0 l.fn.gens l.gens;
  group : l.group.0 < length l.gens.groups;
}

abbrev pub decreases-loop-group : goal.decreases-loop-group
decreases-loop-group l = (gens_of l.gens l.group.0).max_seq - (row_of l.kind (gens_of l.gens l.group.0)).min_seq
