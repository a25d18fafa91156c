use Rattle.std.proofs.Common.{◌≡◌, ◌<◌, Option, Some, None, slice_get, sym, ap, subst, ◌∙◌}
use Rattle.std.specs.Option.{option_map, option_copied}
use Rattle.expansion.specs.Together.{PlacedNow, member_or, list_of, with_place}
use Rattle.expansion.specs.Walk.{item_count, item_at}
use Rattle.expansion.proofs.StepLemmas.{next_of_is, first_left, left_entry, turn_within}
use Rattle.expansion.proofs.expansion.turn_of.Goals as goal

pub returns-in_default : goal.returns-in_default
returns-in_default c = next_of_is c.args.together.now.members None c.in_default.ensures.member

pub returns-in_default-placed : goal.returns-in_default-placed
returns-in_default-placed c =
    let ms = c.args.together.now.members in
    let t = c.in-Some.turn in
    let none : list_of ms t ≡ None = sym c.placed.ensures ∙ ap option_copied c.in_default-placed.is in
    absurd (left_entry ms t.member (first_left ms t.member c.in-Some.ensures.member) (sym c.in-Some.ensures.entry ∙ ap (λ (o : Option PlacedNow). option_map (with_place t.place) o) none))

pub item_of-requires : goal.item_of-requires
item_of-requires c =
    let ms = c.args.together.now.members in
    let t = c.in-Some.turn in
    let p = c.in-Some-placed.placed.now in
    let some : list_of ms t ≡ Some p = sym c.placed.ensures ∙ ap option_copied c.in-Some-placed.is in
    let below : t.place < item_count p.deed = turn_within (member_or (slice_get ms t.member)) t.place p (sym c.in-Some.ensures.entry ∙ ap (λ (o : Option PlacedNow). option_map (with_place t.place) o) some) in
    subst (λ (q : PlacedNow). t.place < item_count q.deed) (sym c.placed-2.view_is) below

pub returns : goal.returns
returns c =
    let ms = c.args.together.now.members in
    let t = c.in-Some.turn in
    let p = c.in-Some-placed.placed.now in
    let some : list_of ms t ≡ Some p = sym c.placed.ensures ∙ ap option_copied c.in-Some-placed.is in
    (next_of_is ms (Some t.member) c.in-Some.ensures.member, (p, some, sym c.in-Some.ensures.entry ∙ ap (λ (o : Option PlacedNow). option_map (with_place t.place) o) some, c.in_ok-item_of.ensures ∙ ap (λ (q : PlacedNow). item_at q.deed t.place) c.placed-2.view_is))
