-- The highest group with the flag among those that were looked at on the way up to the limit.
use Rattle.std.specs.Prelude.{◌≡◌, ℕ, Bool, true, List, [], filter, Option, Some, None}
use Rattle.std.specs.List.{last_or}
use Rattle.machine.specs.declared.record.OomGroup.{OomGroup}
use Rattle.machine.specs.Tree.{Node, under_at}
use Rattle.machine.specs.Victim.{is_flagged, chain_to}

-- the groups that are left to look at
abbrev pub chain_on : List Node → ℕ → Option ℕ → List ℕ
chain_on tree limit None = []
chain_on tree limit (Some g) = chain_to tree limit g

-- the limit lies ahead; and the highest so far, with those that are left, leads to this one
pub record Climbs (tree : List Node) (flags : List OomGroup) (limit : ℕ) (at highest whole : Option ℕ) : Type 0 where
  pub ahead : under_at tree limit at ≡ true
  pub leads : last_or highest (filter (is_flagged flags) (chain_on tree limit at)) ≡ whole
