use Rattle.std.proofs.Common.{ap, ◌∙◌, sym}
use Rattle.group_tree.specs.Tables.{number}
use Rattle.oom.proofs.ClimbLemmas.{climbs-last, climbs-more}
use Rattle.oom.proofs.kill_group.Goals as goal

pub returns-then-eq : goal.returns-then-eq
returns-then-eq c = climbs-last c.args.tree.now c.groups_form_a_tree.ensures.earlier_parents c.args.flags.now.flags c.args.limit.0 _ _ _ _ c.in-Some.here.0 c.loop-at.invariant (ap number c.in-Some.is) (sym c.eq.ensures ∙ c.if-eq.true) c.highest_with-highest.ensures

pub loop-at-preserved : goal.loop-at-preserved
loop-at-preserved c = climbs-more c.args.tree.now c.groups_form_a_tree.ensures.earlier_parents c.args.flags.now.flags c.args.limit.0 _ _ _ _ _ c.in-Some.here.0 c.loop-at.invariant (ap number c.in-Some.is) (sym c.eq.ensures ∙ c.if-eq.false) c.highest_with-highest.ensures c.parent-at.ensures.parent
