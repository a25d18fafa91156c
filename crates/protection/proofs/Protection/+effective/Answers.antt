use Rattle.std.proofs.Common.{◌≡◌, ◌≢◌, ◌==◌, ℕ, true, false, Some, eqb-true, sym, ap, ◌∙◌, arith}
use Rattle.machine.specs.Protection.{setting_of}
use Rattle.machine.specs.Tree.{node_at, is_child, is_live}
use Rattle.group_tree.proofs.LineageLemmas.{live-within}
use Rattle.page_counter.specs.Counts.{usage_of}
use Rattle.page_counter.proofs.ChildLemmas.{asks-most, surplus-most}
use Rattle.page_counter.proofs.KeptLemmas.{child_of}
use Rattle.protection.proofs.KinLemmas.{children_min_usage-kin}
use Rattle.protection.proofs.EffectiveLemmas.{same_below, effective-child, effective-step, has_parent, under-parent}
use Rattle.protection.proofs.Protection.+effective.Goals as goal

other_number : (a b : ℕ) → (a == b) ≡ false → b ≢ a
other_number a b e same = grind (arith, e, same)

pub unreachable-requires : goal.unreachable-requires
unreachable-requires t c = has_parent c.args.self.tree.now c.parent.ensures.tree.earlier_parents c.args.self.target.0 c.args.group.0 c.requires.below c.requires.under (sym c.in_default.ensures.parent)

pub returns-then-eq : goal.returns-then-eq
returns-then-eq t c =
    let same = eqb-true c.in-Some.parent.0 c.args.self.target.0 (sym c.eq.ensures ∙ c.if-eq.true) in
    c.guard.ensures
    ∙ sym (effective-child c.args.self.tree.now c.parent.ensures.tree.earlier_parents c.args.self.target.0 c.args.self.recursive (setting_of c.args.guard c.args.self.counters.now.limits) (usage_of c.args.self.counters.now) c.args.group.0 c.requires.below
    (sym c.in-Some.ensures.parent ∙ ap Some same))

pub effective-above-requires : goal.effective-above-requires
effective-above-requires t c =
    let falls = c.parent.ensures.tree.earlier_parents.falls c.args.group.0 c.in-Some.parent.0 (sym c.in-Some.ensures.parent) in (
      omega (arith, falls, c.decreases),
      (
        c.parent.ensures.tree.parents_live c.args.group.0 c.in-Some.parent.0 c.requires.live (sym c.in-Some.ensures.parent),
        (
          under-parent c.args.self.tree.now c.parent.ensures.tree.earlier_parents c.args.self.target.0 c.args.group.0 c.in-Some.parent.0 c.requires.below (sym c.in-Some.ensures.parent) c.requires.under,
          other_number c.in-Some.parent.0 c.args.self.target.0 (sym c.eq.ensures ∙ c.if-eq.false),
        ),
      ),
    )

-- the group is live, and hangs below its parent, among the counters' groups too
live_there : (t : ℕ) (c : goal.After-are_counted t) → is_live c.args.self.counters.now.tree c.args.group.0 ≡ true
live_there t c = c.args.self.kin.living c.args.group.0 ∙ c.requires.live

among_children : (t : ℕ) (c : goal.After-are_counted t) → is_child c.in-Some.parent.0 (node_at c.args.self.counters.now.tree c.args.group.0) ≡ true
among_children t c = child_of c.args.self.counters.now.tree c.args.group.0 (live_there t c) c.in-Some.parent.0 (c.args.self.kin.parents c.args.group.0 ∙ sym c.in-Some.ensures.parent)

pub below_parent-requires-clause-asked : goal.below_parent-requires-clause-asked
below_parent-requires-clause-asked t c =
    let counters = c.args.self.counters.now in
    let most = asks-most counters.tree (setting_of c.args.guard counters.limits) (usage_of counters) c.in-Some.parent.0 c.args.group.0 (live-within counters.tree c.args.group.0 (live_there t c)) (among_children t c) in
    omega (arith, most, c.guard_usage-own.ensures, c.children_guard_usage-siblings.ensures)

pub below_parent-requires-clause-fits : goal.below_parent-requires-clause-fits
below_parent-requires-clause-fits t c =
    let counters = c.args.self.counters.now in
    let p = c.in-Some.parent.0 in
    let live = c.args.self.kin.living p ∙ c.parent.ensures.tree.parents_live c.args.group.0 p c.requires.live (sym c.in-Some.ensures.parent) in
    let most = surplus-most counters.tree (setting_of c.args.guard counters.limits) (usage_of counters) p c.args.group.0 (live-within counters.tree c.args.group.0 (live_there t c)) (among_children t c) (c.are_counted.ensures.within p live) in
    omega (arith, most, c.guard_usage-own.ensures, c.children_guard_usage-siblings.ensures, c.usage-usage.ensures, c.usage-parent_usage.ensures)

pub returns : goal.returns
returns t c =
    let counters = c.args.self.counters.now in
    let more = other_number c.in-Some.parent.0 c.args.self.target.0 (sym c.eq.ensures ∙ c.if-eq.false) in
    let siblings = c.children_guard_usage-siblings.ensures ∙ children_min_usage-kin counters.tree c.args.self.tree.now c.args.self.kin (setting_of c.args.guard counters.limits) (usage_of counters) c.in-Some.parent.0 in
    c.below_parent.ensures ∙ same_below c.args.self.recursive c.effective-above.ensures siblings c.usage-parent_usage.ensures c.usage-usage.ensures c.guard_usage-own.ensures
    ∙ sym (effective-step c.args.self.tree.now c.parent.ensures.tree.earlier_parents c.args.self.target.0 c.args.self.recursive (setting_of c.args.guard counters.limits) (usage_of counters) c.args.group.0 c.in-Some.parent.0 c.requires.below (sym c.in-Some.ensures.parent) more)
