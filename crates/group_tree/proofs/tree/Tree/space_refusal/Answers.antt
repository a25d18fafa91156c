use Rattle.std.proofs.Common.{ap, ◌∙◌, sym, arith}
use Rattle.std.proofs.lemmas.Bool.{ltb-true, ltb-false}
use Rattle.std.proofs.lemmas.Bool.Decides.{nat_tests}
use Rattle.machine.specs.Tree.{live_groups}
use Rattle.group_tree.proofs.RoomLemmas.{chain_length, no_space, too_deep, space}
use Rattle.group_tree.proofs.tree.Tree.space_refusal.Goals as goal
use Rattle.group_tree.proofs.tree.Tree.space_refusal.Goals.{then-self-ge-MAX_GROUPS, else-self-ge-MAX_GROUPS}

pub returns-then-len-gt-MAX_LEVELS : goal.returns-then-len-gt-MAX_LEVELS
returns-then-len-gt-MAX_LEVELS c =
    let same = c.self.invariant.0.counted in
    let seen = ap live_groups c.self.view_is in
    elim c.if-self-ge-MAX_GROUPS.branch [
      | then-self-ge-MAX_GROUPS w ↦ let many = w.if-self-ge-MAX_GROUPS.true in no_space c.args.self.now c.args.parent.0 (omega (arith, same, seen, many))
      | else-self-ge-MAX_GROUPS w ↦
          let few = w.if-self-ge-MAX_GROUPS.false in
          let whole = chain_length c.args.self.now c.args.parent.0 w.ancestors.result.items w.ancestors.ensures in
          let len = w.len.ensures.value in
          let deep = ltb-true _ _ (sym w.value-is ∙ c.if-len-gt-MAX_LEVELS.true) in
          too_deep c.args.self.now c.args.parent.0 (omega (arith, same, seen, few)) (omega (arith, whole, len, deep))
    ]

pub returns-else-len-gt-MAX_LEVELS : goal.returns-else-len-gt-MAX_LEVELS
returns-else-len-gt-MAX_LEVELS c =
    let same = c.self.invariant.0.counted in
    let seen = ap live_groups c.self.view_is in
    elim c.if-self-ge-MAX_GROUPS.branch [
      | then-self-ge-MAX_GROUPS w ↦
          let many = w.if-self-ge-MAX_GROUPS.true in
          let few = sym w.value-is ∙ c.if-len-gt-MAX_LEVELS.false in
          absurd (grind (arith, nat_tests, many, few))
      | else-self-ge-MAX_GROUPS w ↦
          let few = w.if-self-ge-MAX_GROUPS.false in
          let whole = chain_length c.args.self.now c.args.parent.0 w.ancestors.result.items w.ancestors.ensures in
          let len = w.len.ensures.value in
          let levels = ltb-false _ _ (sym w.value-is ∙ c.if-len-gt-MAX_LEVELS.false) in
          space c.args.self.now c.args.parent.0 (omega (arith, same, seen, few)) (omega (arith, whole, len, levels))
    ]
