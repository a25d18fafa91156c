use Rattle.std.proofs.Common.{List, length, ap, sym, ◌∙◌}
use Rattle.explore.specs.declared.listing.Listed.{Listed}
use Rattle.division.proofs.FaultLemmas.{same_count}
use Rattle.explore.proofs.ListingLemmas.{shown_len}
use Rattle.explore.proofs.report.text_of.Goals as goal

pub returns-clause-why : goal.returns-clause-why
returns-clause-why c =
    same_count c.shown_order.result _ _ _ _ (sym c.in-Some.is) (ap (λ (l : List Listed). length l) c.deref-in-Some.ensures.value ∙ shown_len _ _ c.in_ok-rows.ensures) c.shown_order.ensures.why
