use Rattle.std.proofs.Common.{[], Option, sym, subst}
use Rattle.driver.specs.Schedule.{World}
use Rattle.explorer.specs.Explorers.{IsAt}
use Rattle.explorer.proofs.CarriedLemmas.{on_ok}
use Rattle.explorer.proofs.ExploredLemmas.{came-start}
use Rattle.explorer.proofs.explorer.ExplorerMachine.begin.Goals as goal

pub returns-clause-came : goal.returns-clause-came
returns-clause-came c =
    let parts = c.args.self.now.parts.now in
    let begun = c.begin_run-begun.new.begun.items in
    let said = c.begin_run-begun.new.said.items in
    let path = c.clear.new.self.items in
    let P : Option World → Type 0 = λ (o : Option World). IsAt o c.args.self.now.choice parts [] begun said path in
    on_ok c.begin_run-begun.result
    (λ starts. subst P (sym c.replace.ensures.after) (came-start c.args.self.now.choice parts c.begin_run-begun.new.run begun said path c.in_ok-run.run' c.in_ok-run.ensures.sized c.in_ok-run.ensures.opens starts c.clear.ensures.items))
    c.begin_run-begun.ensures.starts
