use Rattle.std.proofs.Common.{◌≡◌, ◌∙◌, ℕ, List, ◌++◌, map, get_or, sym, ap}
use denote.Ref.{Bor}
use Rattle.charts.specs.declared.watching.Shown.{Shown}
use Rattle.charts.specs.Watched.{seen_of}
use Rattle.charts.specs.Listed.{groups_text, phase_of}
use Rattle.charts.proofs.ListingLemmas.{step_text, step-listed, then-listed, else-listed}
use Rattle.charts.proofs.listing.add_row.Goals.{then-is_last+in_ok-add_groups, else-is_last}
use Rattle.charts.proofs.listing.add_row.Goals as goal

pub loop-left-preserved : goal.loop-left-preserved
loop-left-preserved c = λ rest.
    let phases : List (List ℕ) = map (λ (p : Bor (List ℕ)). p.now) c.args.phases.now in
    let paths : List (List ℕ) = map (λ (p : Bor (List ℕ)). p.now) c.args.paths.now in
    let number : ℕ = get_or c.args.lines.now c.loop-left.next 0 in
    let step = step-listed c.args.page_size.bytes c.args.lines.now c.loop-left.next phases paths (seen_of c.args.row.now) c.args.row.now.steps c.loop-left._left rest c.if-next-lines.false c.loop-left-test.true in
    c.loop-left.invariant rest
    ∙ ap (λ (xs : List ℕ). c.loop-left.text.items ++ xs) step
    ∙ elim c.if-is_last.branch [
      | then-is_last+in_ok-add_groups w ↦
          let added : c.if-is_last.text.items ≡ c.loop-left.text.items ++ step_text c.args.page_size.bytes number phases paths (seen_of c.args.row.now) =
          ap (λ t. t.items) w.text-is
          ∙ w.in_ok-add_groups.ensures
          ∙ ap (λ (phase : List ℕ). c.loop-left.text.items ++ groups_text c.args.page_size.bytes number phase c.args.row.now.machine paths w.deref.result.now) w.phase_of.ensures
          ∙ ap (λ (groups : List Shown). c.loop-left.text.items ++ groups_text c.args.page_size.bytes number (phase_of phases number) c.args.row.now.machine paths groups) w.deref.ensures.value in
          then-listed _ _ _ _ _ (sym c.is_last.ensures ∙ w.if-is_last.true) added
      | else-is_last w ↦ else-listed _ _ _ _ _ (sym c.is_last.ensures ∙ w.if-is_last.false) (ap (λ t. t.items) w.text-is)
    ]
