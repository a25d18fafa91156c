use Rattle.std.proofs.Common.{◌≡◌, ◌∙◌, ℕ, false, Option, Some, refl, sym, ap, subst}
use Rattle.std.specs.Prelude.{is_some, option_map}
use Rattle.machine.specs.Victim.{IsVictims}
use Rattle.oom.specs.declared.Chosen.{Chosen}
use Rattle.oom.specs.Chosen.{pair_of}
use Rattle.page_state.specs.States.{StateOf}
use Rattle.book.proofs.KillLemmas.{decided-kill}
use Rattle.machine.specs.Reclaim.{has_takeable}
use Rattle.book.proofs.decide.decide_relief.Goals as goal

pub returns-then-has_transfer : goal.returns-then-has_transfer
returns-then-has_transfer c =
    let s = c.args.state.now in
    let untakeable : has_takeable s.tables c.target_of-target.result.0 ≡ false = sym c.next_group.ensures.takeable ∙ ap is_some c.in_default.is in
    record {
      none = refl;
      sound = tt;
      fits = (
        c.target_of-target.result.0,
        (sym c.is_wanted.ensures ∙ c.if-not-is_wanted.false, sym c.target_of-target.ensures),
        untakeable,
        sym c.has_transfer.ensures ∙ c.if-has_transfer.true,
      );
    }

pub returns-in-Some-victims : goal.returns-in-Some-victims
returns-in-Some-victims c =
    let s = c.args.state.now in
    rw c.decide_kill.ensures
    (decided-kill s c.args.cause c.target_of-target.result c.in-Some-victims.chosen (sym c.is_wanted.ensures ∙ c.if-not-is_wanted.false) c.target_of-target.ensures c.is_joined.ensures.root
    (sym c.next_group.ensures.takeable ∙ ap is_some c.in_default.is) (sym c.has_transfer.ensures ∙ c.if-has_transfer.false) (victims-of s c.in-Some-victims.chosen c.target_of-target.result.0 c.victims.result c.in-Some-victims.is (rw (c.tree.ensures, c.spaces.ensures.tasks, c.spaces.ensures.page_tables, c.flags.ensures) at c.victims.ensures)))
  where
    victims-of : (s : StateOf) (chosen : Chosen) (limit : ℕ) (found : Option Chosen) → found ≡ Some chosen → IsVictims s.tables.tree s.tables.flags s.tables.tasks s.tables.page_tables limit (option_map pair_of found)
        → IsVictims s.tables.tree s.tables.flags s.tables.tasks s.tables.page_tables limit (Some (pair_of chosen))
    victims-of s chosen limit found is victims = subst (λ (o : Option Chosen). IsVictims s.tables.tree s.tables.flags s.tables.tasks s.tables.page_tables limit (option_map pair_of o)) is victims
