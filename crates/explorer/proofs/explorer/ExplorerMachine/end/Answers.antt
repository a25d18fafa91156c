use Rattle.std.proofs.Common.{rules, ◌≡◌, ◌<◌, ◌^◌, length, Option, Some, ap, sym, subst, ◌∙◌}
use Rattle.driver.specs.Schedule.{World}
use Rattle.explorer.specs.Explorers.{IsAt, eligible_now}
use Rattle.explorer.proofs.ExploredLemmas.{end-gathers}
use Rattle.explorer.proofs.explorer.ExplorerMachine.end.Goals as goal

pub returns-clause-gathered : goal.returns-clause-gathered
returns-clause-gathered c =
    let me = c.args.self.now in
    let parts = me.parts.now in
    let there : me.run ≡ Some c.in-Some.run' = sym c.take.ensures.value ∙ c.in-Some.is in
    let turns : c.len-turns.result ≡ length me.path.items = search rules in
    let fits : c.len-turns.result < 2 ^ 64 = search rules in
    λ runs run counts h.
    let P : Option World → Type 0 = λ (o : Option World). IsAt o me.choice parts run me.begun.items me.said.items me.path.items in
    end-gathers me.choice parts me.waits runs run me.table c.count.new.table me.left_out c.count.new.left_out me.shortest me.longest _ _ c.len-turns.result c.in-Some.run' me.begun.items me.said.items _ _ c.look.new.looked.items _ me.path.items _ _ _ _
    counts (subst P there h) (c.requires ∙ ap (λ (o : Option World). eligible_now o me.choice parts.rows.items) there) c.deref.ensures.value c.new-looked.ensures.items c.in_ok-look.ensures
    c.deref-2.ensures.value c.deref-3.ensures.value c.deref-4.ensures.value c.in_ok-outcome.ensures c.deref-5.ensures.value c.in_ok-count.ensures turns fits c.min-self.ensures c.max-self.ensures
