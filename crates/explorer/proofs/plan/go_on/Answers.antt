use Rattle.std.proofs.Common.{◌≡◌, ◌+◌, ◌<◌, ℕ, None, Some, sym, ap, ◌∙◌, length, subst}
use Rattle.std.specs.Prelude.{slice_index, slice_set}
use Rattle.std.specs.Option.{option_copied}
use Rattle.explorer.specs.Work.{next_of}
use Rattle.explorer.proofs.CarriedLemmas.{goes-none, goes-begin, there-is, number-there}
use Rattle.explorer.proofs.plan.go_on.Goals as goal

pub returns-in_default-clause-goes : goal.returns-in_default-clause-goes
returns-in_default-clause-goes c =
    let row = c.index-rows-place.result in
    let begun = c.args.begun.now.items in
    let P : ℕ → Type 0 = λ (n : ℕ). c.args.place < n in
    let lt : c.args.place < length begun = subst P (sym c.requires.counted) c.requires.within in
    let next : c.index-next.result.now ≡ slice_index begun c.args.place = number-there begun c.args.place c.index-next.result.now lt c.index-next.ensures in
    let none : next_of row (slice_index begun c.args.place) c.args.run.now.seats ≡ None =
    ap (λ (n : ℕ). next_of row n c.args.run.now.seats) (sym next) ∙ (sym c.next_line.ensures.next ∙ ap option_copied c.in_default.is) in
    goes-none c.args.rows.now c.args.place c.args.run.now begun c.args.said.now.items row (there-is c.args.rows.now c.args.place row c.requires.within c.index-rows-place.is) none

pub returns-clause-goes : goal.returns-clause-goes
returns-clause-goes c =
    let row = c.index-rows-place.result in
    let begun = c.args.begun.now.items in
    let P : ℕ → Type 0 = λ (n : ℕ). c.args.place < n in
    let lt : c.args.place < length begun = subst P (sym c.requires.counted) c.requires.within in
    let next : c.index-next.result.now ≡ slice_index begun c.args.place = number-there begun c.args.place c.index-next.result.now lt c.index-next.ensures in
    let some : next_of row (slice_index begun c.args.place) c.args.run.now.seats ≡ Some c.in-Some.line.now =
    ap (λ (n : ℕ). next_of row n c.args.run.now.seats) (sym next) ∙ (sym c.next_line.ensures.next ∙ ap option_copied c.in-Some.is) in
    goes-begin c.args.rows.now c.args.place c.args.run.now c.carry_one.new.run begun _ c.args.said.now.items c.carry_one.new.said.items row c.in-Some.line.now
    (there-is c.args.rows.now c.args.place row c.requires.within c.index-rows-place.is) some c.in_ok-carry_one.ensures (ap (λ (n : ℕ). slice_set begun c.args.place (n + 1)) next)
