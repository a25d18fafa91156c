use Rattle.std.proofs.Common.{sym, ◌∙◌}
use Rattle.std.proofs.lemmas.Result.{err_from_is_err_and}
use Rattle.scenario_words.specs.Faults.{as_is}
use Rattle.expansion.specs.declared.expansion.Expansion.{Expansion}
use Rattle.std.specs.Prelude.{Bool, not, None}
use Rattle.expansion.proofs.StillLemmas.{same_value, is_quiet_there, quiet_open}
use Rattle.expansion.proofs.ItemLemmas.{only_memory, no_until, item_here, item_ends, item_comes, item_left}
use Rattle.expansion.proofs.expansion.Expansion.step_line.Goals as goal

pub returns-in_err-end_line : goal.returns-in_err-end_line
returns-in_err-end_line c =
    let p = err_from_is_err_and c.from_residual-in_err-end_line.result c.from_residual-in_err-end_line.ensures.1 in
    record {
      steps = λ b said t cur. rw (p.1, p.2) (only_memory (Unit {0}) Expansion (λ _. c.end_line.new.self) (record c.args.self.now { current = None }) _ _ _ c.in_err-end_line.field-0.0 (c.in_err-end_line.ensures b cur (no_until c.args.self.now b t cur said)));
    }

pub returns-in_default : goal.returns-in_default
returns-in_default c = record {
  steps = λ b said t cur.
      item_ends c.args.self.now c.end_line.new.self b said t cur (sym c.in_ok-item.ensures.item ∙ c.in_default.is) (sym (same_value _ _ (c.in_ok-end_line.ensures b cur (no_until c.args.self.now b t cur said))));
}

pub returns-in_err-take_item : goal.returns-in_err-take_item
returns-in_err-take_item c =
    let x = c.args.self.now in
    let p = err_from_is_err_and c.from_residual-in_err-take_item.result c.from_residual-in_err-take_item.ensures.1 in
    let some = sym c.in_ok-item.ensures.item ∙ c.in-Some.is in
    record {
      steps = λ b said t cur. rw (p.1, p.2) (only_memory Bool Bool as_is (not x.scene.loose) _ _ _ c.in_err-take_item.field-0.0 (c.in_err-take_item.ensures.comes b (quiet_open x (is_quiet_there x said)) cur (item_here x b c.in-Some.item cur some)));
    }

pub returns-then-branch : goal.returns-then-branch
returns-then-branch c =
    let x = c.args.self.now in
    let i = c.in-Some.item in
    let some = sym c.in_ok-item.ensures.item ∙ c.in-Some.is in
    record {
      steps = λ b said t cur.
          let free = quiet_open x (is_quiet_there x said) in
          let here = item_here x b i cur some in
          item_comes x c.take_item.new.self b i said t cur some (rw c.in-Some.is at c.in_ok-item.ensures.within) (same_value _ _ (c.in_ok-take_item.ensures.comes b free cur here) ∙ c.if-branch.true) (rw c.if-branch.true at (c.in_ok-take_item.ensures.taken b free cur here))
          (c.in_ok-take_item.ensures.rounds b free cur here c.if-branch.true);
    }

pub returns-else-branch : goal.returns-else-branch
returns-else-branch c =
    let x = c.args.self.now in
    let i = c.in-Some.item in
    let some = sym c.in_ok-item.ensures.item ∙ c.in-Some.is in
    record {
      steps = λ b said t cur.
          let free = quiet_open x (is_quiet_there x said) in
          let here = item_here x b i cur some in
          item_left x c.take_item.new.self b i said t cur some (rw c.in-Some.is at c.in_ok-item.ensures.within) (same_value _ _ (c.in_ok-take_item.ensures.comes b free cur here) ∙ c.if-branch.false) (rw c.if-branch.false at (c.in_ok-take_item.ensures.taken b free cur here));
    }
