use Rattle.std.proofs.Common.{◌≡◌, ◌<◌, ℕ, List, Option, Contains, length, ap, sym, subst, ◌∙◌}
use Rattle.driver.specs.Schedule.{World}
use Rattle.explorer.specs.declared.parts.Row.{Row}
use Rattle.explorer.specs.Work.{eligible_in}
use Rattle.explorer.specs.Carried.{Turns}
use Rattle.explorer.specs.Explorers.{IsAt, eligible_now}
use Rattle.explorer.proofs.WorkLemmas.{eligible-row}
use Rattle.explorer.proofs.ExploredLemmas.{came-more}
use Rattle.explorer.proofs.explorer.ExplorerMachine.turn.Goals as goal

pub take_turn-requires-clause-within : goal.take_turn-requires-clause-within
take_turn-requires-clause-within c =
    let rows = c.args.self.now.parts.now.rows.items in
    let choice = c.args.self.now.choice in
    let ready : c.args._ready.now ≡ eligible_in choice rows c.in-Some.run' = c.requires.may ∙ ap (λ (o : Option World). eligible_now o choice rows) c.in-Some.is in
    let P : List ℕ → Type 0 = λ (l : List ℕ). Contains l c.args.who in
    let Q : List Row → Type 0 = λ (l : List Row). c.args.who < length l in
    subst Q (sym c.deref.ensures.value) (eligible-row choice c.in-Some.run' rows c.args.who (subst P ready c.requires.among))

pub returns-clause-came : goal.returns-clause-came
returns-clause-came c =
    let rows = c.args.self.now.parts.now.rows.items in
    let begun = c.args.self.now.begun.items in
    let said = c.args.self.now.said.items in
    let path = c.args.self.now.path.items in
    let choice = c.args.self.now.choice in
    let ready : c.args._ready.now ≡ eligible_in choice rows c.in-Some.run' = c.requires.may ∙ ap (λ (o : Option World). eligible_now o choice rows) c.in-Some.is in
    let T : List Row → Type 0 = λ (l : List Row). Turns l c.args.who c.in-Some.run' begun said c.take_turn.new.run c.take_turn.new.begun.items c.take_turn.new.said.items in
    λ run h.
    let P : Option World → Type 0 = λ (o : Option World). IsAt o choice c.args.self.now.parts.now run begun said path in
    came-more choice c.args.self.now.parts.now run c.in-Some.run' c.take_turn.new.run begun c.take_turn.new.begun.items said c.take_turn.new.said.items path c.push.new.self.items
    (record { ready = c.args._ready.now; who = c.args.who }) (subst P c.in-Some.is h) ready c.requires.among (subst T c.deref.ensures.value c.in_ok-take_turn-in-Some.ensures.turns) c.in_ok-push.ensures.items
