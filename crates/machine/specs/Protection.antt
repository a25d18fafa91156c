-- Effective protection (admin-guide/cgroup-v2, memory.min and memory.low; mm/page_counter.c: effective_protection).
--   1. The reclaim's target has no protection of its own from itself: only groups below it have.
--   2. A child of the target has its setting as it stands.
--   3. Below that, a group asks for what it uses, at most its setting.
--   4. Where the children of one parent ask for more than the parent's effective value, each has its part of that value in proportion to what it asks.
--   5. With recursive protection, a child has on top of that its part of what the children leave of the parent's value: what it uses beyond what it asks, out of
--      what the parent uses beyond what its children ask. What the parent uses in no live child has its part too, which then goes to nobody.
--      A parent's value of max, where it uses more than its children ask, is that of each child that uses more than it asks.
-- `setting` is the memory.min of a group, or its memory.low: both come down to the groups below by the same rules, each by its own settings.
use Rattle.std.specs.Prelude.{ℕ, ◌+◌, ◌-◌, ◌*◌, ◌/◌, ◌==◌, ◌&&◌, ◌||◌, nat_lt, Bool, true, false, if◌then◌else◌, List, [], ◌∷◌, sum_by}
use Rattle.machine.specs.declared.amount.Amount.{Amount}
use Rattle.machine.specs.declared.amount.Amount.TheVariants.{Max, Pages}
use Rattle.machine.specs.Tree.{Node, children, chain_below}
use Rattle.machine.specs.Amounts.{exceeds, at_most}
use Rattle.machine.specs.declared.record.Limits.{Limits}
use Rattle.machine.specs.declared.record.Guard.{Guard}
use Rattle.machine.specs.Counts.{limits_at, guard_of}

-- what a group asks for: its use, at most its setting
abbrev pub min_usage : (ℕ → Amount) → (ℕ → ℕ) → ℕ → ℕ
min_usage setting usage g = at_most (usage g) (setting g)

-- what the live children of a group ask for together
abbrev pub children_min_usage : List Node → (ℕ → Amount) → (ℕ → ℕ) → ℕ → ℕ
children_min_usage tree setting usage p = sum_by (min_usage setting usage) (children tree p)

-- rule 5: what comes on top of the asked part, where the parent's value and its use are more than what its children ask, and the group uses more than it asks
abbrev pub with_rest : Amount → ℕ → ℕ → ℕ → ℕ → Amount
with_rest Max siblings parent_usage own_usage own = if nat_lt siblings parent_usage && nat_lt own own_usage then Max else Pages own
with_rest (Pages e) siblings parent_usage own_usage own =
    if nat_lt siblings e && (nat_lt siblings parent_usage && nat_lt own own_usage)
    then Pages (own + (e - siblings) * (own_usage - own) / (parent_usage - siblings))
    else Pages own

-- rules 3 and 4: the part of a parent's value, floor division. (Excludes taking the setting itself below an overcommitted parent.)
abbrev pub part_of : Amount → ℕ → ℕ → Amount
part_of Max siblings own = Pages own
part_of (Pages e) siblings own = if nat_lt e siblings then Pages (own * e / siblings) else Pages own

-- where the switch of rule 5 is on, the rest too. Rules 4 and 5 never both apply
abbrev pub below_parent : Bool → Amount → ℕ → ℕ → ℕ → ℕ → Amount
below_parent false e siblings parent_usage own_usage own = part_of e siblings own
below_parent true e siblings parent_usage own_usage own = if exceeds siblings e then part_of e siblings own else with_rest e siblings parent_usage own_usage own

-- along a chain from the group up to the target's child. The target's own chain is empty, and it has no protection. Asked only of groups below the target
unfoldable pub effective_along : Bool → List Node → (ℕ → Amount) → (ℕ → ℕ) → List ℕ → Amount
effective_along recursive tree setting usage [] = Pages 0
effective_along recursive tree setting usage (g ∷ []) = setting g
effective_along recursive tree setting usage (g ∷ p ∷ above) =
    below_parent recursive (effective_along recursive tree setting usage (p ∷ above)) (children_min_usage tree setting usage p) (usage p) (usage g) (min_usage setting usage g)

-- the effective value of a group for a reclaim of the target
abbrev pub effective : Bool → List Node → (ℕ → Amount) → (ℕ → ℕ) → ℕ → ℕ → Amount
effective recursive tree setting usage target g = effective_along recursive tree setting usage (chain_below tree target g)

-- by group, the memory.min or the memory.low
abbrev pub setting_of : Guard → List Limits → ℕ → Amount
setting_of guard limits g = guard_of guard (limits_at limits g)

-- the setting does not protect the group from a reclaim of the target: the target itself never, and a group below it not while it uses more than its effective value.
-- (Excludes counting the target's own min.)
abbrev pub is_beyond : Bool → List Node → (ℕ → Amount) → (ℕ → ℕ) → ℕ → ℕ → Bool
is_beyond recursive tree setting usage target g = (g == target) || exceeds (usage g) (effective recursive tree setting usage target g)
