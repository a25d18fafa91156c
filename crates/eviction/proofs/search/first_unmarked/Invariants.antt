use Rattle.std.proofs.Common.{◌≡◌, ◌+◌, ◌<◌, ◌≤◌, length}
use Rattle.machine.specs.Aging.{has_mark}
use Rattle.machine.specs.Eviction.{old_pages, front_run, has_usable, passed_by, settled}
use Rattle.lru_gen.specs.Gens.{gens_of}
use Rattle.aging.specs.Groups.{seen_at, ChangesOnly}
use Rattle.eviction.proofs.TurnLemmas.{how_many}
use Rattle.eviction.proofs.search.first_unmarked.Given as goal

abbrev pub invariant-loop-old : goal.invariant-loop-old
invariant-loop-old l = record {
  same : settled (passed_by l.swap_free (seen_at l.group.0 l.gens l.marks)) ≡ settled (passed_by l.fn.swap_free (seen_at l.fn.group.0 l.fn.gens l.fn.marks));
  looks :
      l.looks + length (front_run (has_mark l.marks) (old_pages l.swap_free (gens_of l.gens l.group.0)))
      ≡ length (front_run (has_mark l.fn.marks) (old_pages l.fn.swap_free (gens_of l.fn.gens l.fn.group.0)));
  few : l.looks + how_many l.marks ≤ length l.fn.marks;
  usable : has_usable l.swap_free (gens_of l.gens l.group.0) ≡ has_usable l.fn.swap_free (gens_of l.fn.gens l.fn.group.0);
  only : ChangesOnly l.fn.group.0 l.fn.gens l.gens;
  group : l.group.0 < length l.gens.groups;
  marked : l.gens.pages ≤ length l.marks;
  size : length l.marks ≡ length l.fn.marks;
}

abbrev pub decreases-loop-old : goal.decreases-loop-old
decreases-loop-old l = length (old_pages l.swap_free (gens_of l.gens l.group.0))
