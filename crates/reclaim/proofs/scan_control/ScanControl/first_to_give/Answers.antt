use Rattle.std.proofs.Common.{refl, sym, ◌∙◌}
use Rattle.group_tree.specs.Tables.{number}
use Rattle.reclaim.specs.Pass.{asked_by}
use Rattle.reclaim.proofs.WalkLemmas.{is_at-same}
use Rattle.reclaim.proofs.PassLemmas.{find-step, asked-rest}
use Rattle.reclaim.proofs.scan_control.ScanControl.first_to_give.Goals as goal

pub returns-then-asks : goal.returns-then-asks
returns-then-asks c =
    sym
    (find-step (asked_by c.args.self c.args.old_files c.args.low_reclaim) c.in-Some.group.0 c.loop-group.group-iterator c.next.new.self (number c.args.last) c.in-Some.ensures.steps (sym c.asks.ensures ∙ c.if-asks.true)
    (is_at-same _ (λ a b. refl) c.in-Some.group c.args.last))
    ∙ c.loop-group.invariant.same

pub returns-then-eq : goal.returns-then-eq
returns-then-eq c =
    sym
    (find-step (asked_by c.args.self c.args.old_files c.args.low_reclaim) c.in-Some.group.0 c.loop-group.group-iterator c.next.new.self (number c.args.last) c.in-Some.ensures.steps (sym c.asks.ensures ∙ c.if-asks.false)
    (is_at-same _ (λ a b. refl) c.in-Some.group c.args.last ∙ sym c.eq.ensures ∙ c.if-eq.true))
    ∙ c.loop-group.invariant.same

pub loop-group-preserved : goal.loop-group-preserved
loop-group-preserved c =
    record {
      asked = asked-rest c.args.self.protection.tree.now c.args.self.protection.target.0 c.loop-group.group-iterator c.next.new.self c.in-Some.group.0 c.in-Some.ensures.steps c.loop-group.invariant.asked;
      same =
          sym
          (find-step (asked_by c.args.self c.args.old_files c.args.low_reclaim) c.in-Some.group.0 c.loop-group.group-iterator c.next.new.self (number c.args.last) c.in-Some.ensures.steps (sym c.asks.ensures ∙ c.if-asks.false)
          (is_at-same _ (λ a b. refl) c.in-Some.group c.args.last ∙ sym c.eq.ensures ∙ c.if-eq.false))
          ∙ c.loop-group.invariant.same;
    }
