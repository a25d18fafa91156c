use Rattle.std.proofs.Common.{◌≡◌, ◌∙◌, ap, eq-eqb, refl, true}
use Rattle.page_state.specs.Owned.{is_slot}
use Rattle.page_state.proofs.release.give_backing.Goals as goal

pub give-requires : goal.give-requires
give-requires c =
    let here : is_slot c.args.backing c.in-Swap.slot ≡ true = ap (λ x. is_slot x c.in-Swap.slot) c.in-Swap.is ∙ eq-eqb c.in-Swap.slot c.in-Swap.slot refl in
    record { out = c.requires.out c.in-Swap.slot here; in_range = c.requires.in_range c.in-Swap.slot here }
