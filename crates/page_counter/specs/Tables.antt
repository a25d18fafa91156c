-- The tables that the counters stand in, by the groups' numbers.
use Rattle.std.specs.Prelude.{◌≡◌, ℕ, ◌-◌, List, length, min, vec_len, vec_capacity}
use Rattle.page_counter.specs.Counts.{Counts, AreCounts}
use Rattle.page_counter.specs.GuardSums.{AreBothKept}
use Rattle.page_counter.specs.declared.counters.Counters.TheInside.{Inside}

-- what the tables say. There is memory for as many groups more as each table has room for
abbrev pub counts_of : Inside → Counts
counts_of c = record {
  tree = c.lineage.tree;
  limits = c.limits.items;
  usage = c.usage.items;
  room = min c.lineage.room (min (vec_capacity c.limits - vec_len c.limits) (min (vec_capacity c.usage - vec_len c.usage) c.sums.room));
}

-- each table has one entry a group, and the counts are those of some list of charges
pub record IsCounted (s : Counts) : Type 0 where
  pub limits_length : length s.limits ≡ length s.tree
  pub usage_length : length s.usage ≡ length s.tree
  pub charges : List ℕ
  pub counted : AreCounts s charges

-- and the sums of both settings are kept
pub record IsCounters (c : Inside) : Type 0 where
  pub tables : IsCounted (counts_of c)
  pub sums : AreBothKept c.lineage.tree c.limits.items c.usage.items c.sums
