use Rattle.std.proofs.Common.{◌≡◌, ◌<◌, ◌+◌, ◌*◌, ℕ, Option, sym, ◌∙◌, subst, length, arith}
use Rattle.std.specs.Prelude.{IfSome}
use Rattle.std.specs.Int.{bit_at}
use Rattle.std.proofs.lemmas.Nat.Bits.{bit_at-lt, shr_and_one}
use Rattle.machine.specs.declared.record.Kind.{Kind}
use Rattle.machine.specs.declared.id.PageId.{PageId}
use Rattle.machine.specs.Lists.{kind_at, HitsThose}
use Rattle.pages.specs.PagesOf.{is_held_frame}
use Rattle.held_pages.specs.Held.{HeldOf, hit}
use Rattle.page_state.specs.Merging.{is_at_place}
use Rattle.page_state.proofs.MergeLemmas.{holder-alone, holder-there, merges-one}
use Rattle.page_state.proofs.merging.merge_mark.Goals as goal

-- a bit that is not 0 is 1
is_one : (n : ℕ) → n < 2 → (n ≡ 0 → ⊥) → n ≡ 1
is_one n small some = omega (arith, small, some)

pub returns-in_default-kind-clause-merged : goal.returns-in_default-kind-clause-merged
returns-in_default-kind-clause-merged c =
    let there = holder-there (c.args.word * 64 + c.args.place) c.in-Some.page.0 c.args.pages.now.pages _ c.kind.ensures (holder-alone (is_held_frame (c.args.word * 64 + c.args.place)) c.args.pages.now.pages _ c.in-Some.page c.in-Some.is c.holder.ensures.alone) in
    absurd (c.in_default-kind.not-Some _ there.2)

pub returns-clause-merged : goal.returns-clause-merged
returns-clause-merged c =
    let bits = c.args.bits in
    let place = c.args.place in
    let lists = c.args.held.now.lists in
    let pages = c.args.pages.now.pages in
    let q = c.in-Some.page.0 in
    let bit : bit_at bits place ≡ 1 = is_one (bit_at bits place) (bit_at-lt bits place) (λ e. c.if-bits-place-eq0.false (shr_and_one bits place ∙ e)) in
    let within : q < c.args.pages.now.numbers = subst (λ (found : Option PageId). IfSome found (λ page. page.0 < c.args.pages.now.numbers)) c.in-Some.is c.holder.ensures.within in
    let numbers = c.requires.numbers in
    let size = c.hit.ensures.size in
    let counts = c.hit.ensures.counts in
    let there = holder-there (c.args.word * 64 + place) q pages _ c.kind.ensures (holder-alone (is_held_frame (c.args.word * 64 + c.args.place)) c.args.pages.now.pages _ c.in-Some.page c.in-Some.is c.holder.ensures.alone) in
    let same : c.in-Some-kind.kind ≡ kind_at there.0.content = (let e = sym c.in-Some-kind.is ∙ there.2 in cc) in
    subst (λ (h : HeldOf). HitsThose c.args.placement (is_at_place c.args.word bits place) pages lists h.lists) (sym c.hit.ensures.hit)
    (subst (λ (kind : Kind). HitsThose c.args.placement (is_at_place c.args.word bits place) pages lists (hit lists c.args.placement kind q)) (sym same)
    (merges-one c.args.placement c.args.word bits pages place lists q there.0 c.requires.place bit (omega (arith, within, numbers, size)) (omega (arith, within, numbers, counts)) there.1 (holder-alone (is_held_frame (c.args.word * 64 + c.args.place)) c.args.pages.now.pages _ c.in-Some.page c.in-Some.is c.holder.ensures.alone)))
