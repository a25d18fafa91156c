use Rattle.std.proofs.Common.{◌≡◌, ◌<◌, Some, List, slice_get, sym, ap, ◌∙◌, arith}
use Rattle.std.specs.Option.{option_copied}
use Rattle.expansion.specs.Together.{PlacedNow, entries}
use Rattle.expansion.proofs.TogetherLemmas.{list_at, still_in, next_in, one_more_ends, nothing_left}
use Rattle.expansion.proofs.together.Member.take.Goals as goal

pub returns-in_default : goal.returns-in_default
returns-in_default c =
    let i = c.self.inside in
    let e : option_copied c.list_at.result ≡ slice_get i.list.items i.at = c.list_at.ensures ∙ ap (λ (ps : List PlacedNow). slice_get ps i.at) c.as_slice.ensures.value in
    absurd (nothing_left i.list.items c.args.self.now i.at i.taken c.self.invariant.0 c.self.view_is c.requires (sym e ∙ ap option_copied c.in_default.is))

pub invariant_of-self : goal.invariant_of-self
invariant_of-self c =
    let i = c.self.inside in
    let e : option_copied c.list_at.result ≡ slice_get i.list.items i.at = c.list_at.ensures ∙ ap (λ (ps : List PlacedNow). slice_get ps i.at) c.as_slice.ensures.value in
    let there : slice_get i.list.items i.at ≡ Some c.in-Some.placed.now = sym e ∙ ap option_copied c.in-Some.is in
    let below : c.saturating_add-taken.result < entries c.in-Some.placed.now = omega arith in
    (still_in i.list.items i.at c.saturating_add-taken.result c.in-Some.placed.now there below, c.self.invariant.1)

pub invariant_of-self-else-taken-count : goal.invariant_of-self-else-taken-count
invariant_of-self-else-taken-count c =
    let i = c.self.inside in
    let e : option_copied c.list_at.result ≡ slice_get i.list.items i.at = c.list_at.ensures ∙ ap (λ (ps : List PlacedNow). slice_get ps i.at) c.as_slice.ensures.value in
    let there : slice_get i.list.items i.at ≡ Some c.in-Some.placed.now = sym e ∙ ap option_copied c.in-Some.is in
    (next_in i.list.items i.at c.saturating_add-self-inside.result c.in-Some.placed.now c.self.invariant.1 there (let k = (list_at i.list.items i.at c.in-Some.placed.now there).0 in omega (arith, c.as_slice.ensures.len, i.list.ok.0)), c.self.invariant.1)

pub returns-else-taken-count : goal.returns-else-taken-count
returns-else-taken-count c =
    let i = c.self.inside in
    let e : option_copied c.list_at.result ≡ slice_get i.list.items i.at = c.list_at.ensures ∙ ap (λ (ps : List PlacedNow). slice_get ps i.at) c.as_slice.ensures.value in
    let there : slice_get i.list.items i.at ≡ Some c.in-Some.placed.now = sym e ∙ ap option_copied c.in-Some.is in
    one_more_ends i.list.items c.args.self.now i.at i.taken c.saturating_add-self-inside.result c.in-Some.placed.now c.self.invariant.0 c.self.view_is there (omega arith) (let k = (list_at i.list.items i.at c.in-Some.placed.now there).0 in omega (arith, c.as_slice.ensures.len, i.list.ok.0))
