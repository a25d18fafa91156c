use Rattle.std.proofs.Common.{◌≡◌, ℕ, ◌<◌, Bool, true, false, ap, sym, ◌∙◌}
use Rattle.std.proofs.lemmas.List.{get_or-replicate}
use Rattle.std.specs.Prelude.{MatchBool, slice_index, replicate}
use Rattle.machine.specs.Access.{page_size}
use Rattle.machine.specs.FirstBytes.{byte_or_zero}
use Rattle.trace.specs.Walks.{bytes_of}
use Rattle.trace.proofs.arrival.rest_is.Goals as goal

as_well : {P Q : Type 0} (b : Bool) → MatchBool b P (P → ⊥) → (P → Q) → (Q → P) → MatchBool b Q (Q → ⊥)
as_well true h forth back = forth h
as_well false h forth back = λ q. h (back q)

zeros : (o : ℕ) → o < page_size → slice_index (replicate page_size 0) o ≡ 0
zeros o lt = get_or-replicate page_size o 0 0 lt

pub returns-in-None : goal.returns-in-None
returns-in-None c =
    let none : (o : ℕ) → byte_or_zero (bytes_of c.args.arrived) o ≡ 0 = λ o. ap (λ a. byte_or_zero (bytes_of a) o) c.in-None.is in
    as_well c.rest_agrees-in-None.result c.rest_agrees-in-None.ensures
    (λ rest o lt unsettled. rest o lt unsettled ∙ zeros o lt ∙ sym (none o))
    (λ rest o lt unsettled. rest o lt unsettled ∙ none o ∙ sym (zeros o lt))
