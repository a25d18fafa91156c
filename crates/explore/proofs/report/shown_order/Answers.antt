use Rattle.std.proofs.Common.{ℕ, List, Some, length, ap, ◌∙◌, subst}
use Rattle.explore.specs.declared.listing.Listed.{Listed}
use Rattle.division.specs.Faults.{IsUnshown}
use Rattle.division.proofs.FaultLemmas.{handed_on}
use Rattle.explore.proofs.ListingLemmas.{ranked_len}
use Rattle.explore.proofs.report.shown_order.Goals as goal

pub returns-in_err-path : goal.returns-in_err-path
returns-in_err-path c =
    let P : ℕ → Type 0 = λ (n : ℕ). IsUnshown (Some c.args.number) n c.in_err-path.field-0.0 in
    record {
      why =
          handed_on c.from_residual-in_err-path.result c.in_err-path.field-0.0 (IsUnshown (Some c.args.number) (length c.args.found.now)) c.from_residual-in_err-path.ensures.1
          (subst P (ap (λ (l : List Listed). length l) c.deref.ensures.value ∙ ranked_len _ _ c.in_ok-rows.ensures) c.in_err-path.ensures.why);
    }
