use Rattle.std.proofs.Common.{ℕ, ◌++◌, List, ◌∙◌, ap, append_assoc}
use Rattle.charts.specs.Listed.{machine_text, cells_text, end_text}
use Rattle.charts.proofs.ListingLemmas.{on_ok}
use Rattle.charts.proofs.listing.add_look.Goals as goal

pub returns : goal.returns
returns c =
    let common = c.args.common in
    let old : List ℕ = c.args.text.now.items in
    let cells : List ℕ = cells_text common.page_size.bytes common.line c.args.path.now c.args.look c.args.stat in
    let machine : List ℕ = machine_text common.page_size.bytes common.machine in
    let last : List ℕ = end_text common.phase.now in
    on_ok c.add_phase.result c.add_phase.ensures
    (λ e. e
    ∙ ap (λ (xs : List ℕ). xs ++ last) (c.in_ok-add_machine.ensures ∙ ap (λ (xs : List ℕ). xs ++ machine) c.in_ok-add_cells.ensures)
    ∙ append_assoc (old ++ cells) machine last
    ∙ append_assoc old cells (machine ++ last))
