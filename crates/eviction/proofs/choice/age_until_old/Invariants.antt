use Rattle.std.proofs.Common.{◌≡◌, ℕ, ◌+◌, ◌-◌, ◌<◌, ◌≤◌, Option, length}
use Rattle.machine.specs.Aging.{Seen, aged}
use Rattle.machine.specs.Eviction.{AgesToOld}
use Rattle.lru_gen.specs.Gens.{gens_of}
use Rattle.aging.specs.Groups.{seen_at, ChangesOnly}
use Rattle.eviction.proofs.AgeLemmas.{Holds}
use Rattle.eviction.proofs.choice.age_until_old.Given as goal

abbrev pub invariant-loop-page : goal.invariant-loop-page
invariant-loop-page l = record {
  picks :
      (answer : Option ℕ) (to : Seen) → AgesToOld l.swap_free (aged (seen_at l.group.0 l.gens l.marks)) answer to
      → AgesToOld l.fn.swap_free (seen_at l.fn.group.0 l.fn.gens l.fn.marks) answer to;
  ages : (gens_of l.gens l.group.0).max_seq ≡ (gens_of l.fn.gens l.fn.group.0).max_seq + l.ages;
  few : l.ages ≤ 2;
  holds : Holds l.swap_free ((gens_of l.fn.gens l.fn.group.0).max_seq + 1) (seen_at l.group.0 l.gens l.marks);
  only : ChangesOnly l.fn.group.0 l.fn.gens l.gens;
  group : l.group.0 < length l.gens.groups;
  marked : l.gens.pages ≤ length l.marks;
}

abbrev pub decreases-loop-page : goal.decreases-loop-page
decreases-loop-page l = 3 - l.ages
