use Rattle.std.proofs.Common.{Option, Some, refl, subst, ◌∙◌}
use Rattle.std.proofs.lemmas.Result.{err_from_is_err_and}
use Rattle.scenario_words.specs.Faults.{as_is}
use Rattle.std.specs.Prelude.{Bool, not, None}
use Rattle.expansion.specs.declared.expansion.Item.{Item}
use Rattle.expansion.specs.declared.together.Turn.{Turn}
use Rattle.expansion.specs.ToCome.{IsTurnOf}
use Rattle.expansion.proofs.StillLemmas.{same_value, is_quiet_there, quiet_open}
use Rattle.expansion.proofs.ItemLemmas.{only_memory, turns_end, turn_comes, turn_left}
use Rattle.expansion.proofs.expansion.Expansion.step_together.Goals as goal

pub returns-in_default : goal.returns-in_default
returns-in_default c = record {
  steps = λ t said e. turns_end c.args.self.now (record c.args.self.now { together = None }) t said e (rw c.in_default.is at (c.in_ok-turn.ensures t e)) refl;
}

pub returns-in_err-take_turn : goal.returns-in_err-take_turn
returns-in_err-take_turn c =
    let x = c.args.self.now in
    let p = err_from_is_err_and c.from_residual-in_err-take_turn.result c.from_residual-in_err-take_turn.ensures.1 in
    record {
      steps = λ t said e. rw (p.1, p.2) (only_memory Bool Bool as_is (not x.scene.loose) _ _ _ c.in_err-take_turn.field-0.0 (c.in_err-take_turn.ensures.comes (quiet_open x (is_quiet_there x said))));
    }

pub returns-then-branch : goal.returns-then-branch
returns-then-branch c =
    let x = c.args.self.now in
    let turn = c.in-Some.turn in
    let i = c.in-Some.item in
    record {
      steps = λ t said e.
          let free = quiet_open x (is_quiet_there x said) in
          let q : IsTurnOf t.members (Some (turn, i)) = subst (λ (o : Option (Turn × Item)). IsTurnOf t.members o) c.in-Some.is (c.in_ok-turn.ensures t e) in
          let told = c.in_ok-take_turn.ensures.told t q.1.0 free e q.1.1 c.if-branch.true in
          turn_comes x c.take_turn.new.self t q.1.0 turn i said e q.0 q.1.1 q.1.2 q.1.3 (same_value _ _ (c.in_ok-take_turn.ensures.comes free) ∙ c.if-branch.true) (c.in_ok-take_turn.ensures.taken t q.1.0 free e) told.0 told.1 told.2;
    }

pub returns-else-branch : goal.returns-else-branch
returns-else-branch c =
    let x = c.args.self.now in
    let turn = c.in-Some.turn in
    let i = c.in-Some.item in
    record {
      steps = λ t said e.
          let free = quiet_open x (is_quiet_there x said) in
          let q : IsTurnOf t.members (Some (turn, i)) = subst (λ (o : Option (Turn × Item)). IsTurnOf t.members o) c.in-Some.is (c.in_ok-turn.ensures t e) in
          turn_left x c.take_turn.new.self t turn.member said e q.0 (same_value _ _ (c.in_ok-take_turn.ensures.comes free) ∙ c.if-branch.false) (c.in_ok-take_turn.ensures.taken t q.1.0 free e);
    }
