use Rattle.std.proofs.Common.{◌≡◌, ℕ, true, false, List, sym, ap, ◌∙◌, subst}
use Rattle.std.specs.Prelude.{min, max}
use Rattle.machine.specs.Order.{least_of, greatest_of}
use Rattle.machine.specs.Tree.{preorder}
use Rattle.page_counter.specs.Counts.{usage_of}
use Rattle.reclaim.specs.Pass.{gives_by}
use Rattle.reclaim.specs.Walk.{AreAsked}
use Rattle.reclaim.proofs.PassLemmas.{asked-all, asked-rest}
use Rattle.reclaim.proofs.TurnLemmas.{least-on, greatest-on}
use Rattle.reclaim.proofs.scan_control.ScanControl.sizes_given.Goals as goal

pub loop-group-init : goal.loop-group-init
loop-group-init c =
    let tree = c.args.self.protection.tree.now in
    let target = c.args.self.protection.target.0 in
    let walk : c.into_iter-group-iterator.result ≡ preorder tree target = cc (c.into_iter-group-iterator.ensures.into_iter_gives, c.preorder-group-items.ensures) in
    record {
      asked = subst (AreAsked tree target) (sym walk) (asked-all tree target c.groups_form_a_tree.ensures c.args.self.live);
      least = ap (λ (gs : List ℕ). least_of (gives_by c.args.self c.args.low_reclaim) (usage_of c.args.self.protection.counters.now) gs c.args.size) walk;
      greatest = ap (λ (gs : List ℕ). greatest_of (gives_by c.args.self c.args.low_reclaim) (usage_of c.args.self.protection.counters.now) gs c.args.size) walk;
    }

pub loop-group-preserved-then-gives : goal.loop-group-preserved-then-gives
loop-group-preserved-then-gives c =
    let gives = gives_by c.args.self c.args.low_reclaim in
    let size = usage_of c.args.self.protection.counters.now in
    let here = sym c.gives.ensures ∙ c.if-gives.true in
    record {
      asked = asked-rest c.args.self.protection.tree.now c.args.self.protection.target.0 c.loop-group.group-iterator c.next.new.self c.in-Some.group.0 c.in-Some.ensures.steps c.loop-group.invariant.asked;
      least =
          ap (λ n. least_of gives size c.next.new.self n) (c.min-least.ensures ∙ ap (λ n. min n c.loop-group.least) c.usage.ensures)
          ∙ sym (least-on gives size c.loop-group.group-iterator c.next.new.self c.in-Some.group.0 c.loop-group.least true c.in-Some.ensures.steps here)
          ∙ c.loop-group.invariant.least;
      greatest =
          ap (λ n. greatest_of gives size c.next.new.self n) (c.max-greatest.ensures ∙ ap (λ n. max n c.loop-group.greatest) c.usage-then-gives.ensures)
          ∙ sym (greatest-on gives size c.loop-group.group-iterator c.next.new.self c.in-Some.group.0 c.loop-group.greatest true c.in-Some.ensures.steps here)
          ∙ c.loop-group.invariant.greatest;
    }

pub loop-group-preserved : goal.loop-group-preserved
loop-group-preserved c =
    let gives = gives_by c.args.self c.args.low_reclaim in
    let size = usage_of c.args.self.protection.counters.now in
    let not_so = sym c.gives.ensures ∙ c.if-gives.false in
    record {
      asked = asked-rest c.args.self.protection.tree.now c.args.self.protection.target.0 c.loop-group.group-iterator c.next.new.self c.in-Some.group.0 c.in-Some.ensures.steps c.loop-group.invariant.asked;
      least =
          sym (least-on gives size c.loop-group.group-iterator c.next.new.self c.in-Some.group.0 c.loop-group.least false c.in-Some.ensures.steps not_so) ∙ c.loop-group.invariant.least;
      greatest =
          sym (greatest-on gives size c.loop-group.group-iterator c.next.new.self c.in-Some.group.0 c.loop-group.greatest false c.in-Some.ensures.steps not_so) ∙ c.loop-group.invariant.greatest;
    }
