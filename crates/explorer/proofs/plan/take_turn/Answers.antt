use Rattle.std.proofs.Common.{[], ◌∷◌, sym, subst}
use Rattle.machine.specs.declared.command.Step.TheVariants.{Advance}
use Rattle.explorer.specs.declared.parts.Row.{Row}
use Rattle.explorer.specs.Carried.{Carries}
use Rattle.explorer.proofs.CarriedLemmas.{on_ok, turn-of, there-is}
use Rattle.explorer.proofs.plan.take_turn.Goals as goal

pub returns-clause-turns : goal.returns-clause-turns
returns-clause-turns c =
    let row = c.index-rows-place.result in
    let P : Row → Type 0 = λ (r : Row). Carries c.args.run.now (Advance r.actor ∷ []) c.args.said.now.items c.advance.new.said.items c.advance.new.run in
    on_ok c.go_on.result
    (turn-of c.args.rows.now c.args.place c.args.run.now c.advance.new.run c.go_on.new.run c.args.begun.now.items c.go_on.new.begun.items c.args.said.now.items c.advance.new.said.items c.go_on.new.said.items row
    (there-is c.args.rows.now c.args.place row c.requires.within c.index-rows-place.is) (subst P (sym c.index-rows-place.is) c.in_ok-advance.ensures))
    c.go_on.ensures.goes
