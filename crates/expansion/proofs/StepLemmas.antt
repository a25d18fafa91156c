-- Steps of an expansion.
use Rattle.std.proofs.Common.{◌≡◌, ℕ, ◌-◌, ◌<◌, ◌≤◌, Bool, true, false, nat_lt, List, [], ◌∷◌, ◌++◌, length, slice_get, Option, Some, None, refl, sym, ap, ◌∙◌, arith}
use Rattle.std.specs.Option.{option_map, unwrap_or}
use Rattle.std.proofs.lemmas.Bool.Decides.{nat_tests}
use Rattle.std.proofs.lemmas.Bool.{ltb-true}
use Rattle.scenario_lines.specs.declared.burst.Burst.{Burst}
use Rattle.scenario_lines.specs.declared.burst.Deed.{Deed}
use Rattle.scenario_lines.specs.declared.burst.Deed.TheVariants as deed
use Rattle.scenario_lines.specs.Acts.{entry_count}
use Rattle.expansion.specs.declared.expansion.Expansion.{Expansion}
use Rattle.expansion.specs.Merge.{IsNext, next_among}
use Rattle.expansion.specs.Together.{PlacedNow, MemberNow, entries, total, entry_in, cursors_of, has_left, member_or, next_entry, next_of}
use Rattle.expansion.specs.Walk.{Told, Gathered, item_count, lists_gathered, stands}
use Rattle.expansion.specs.Standings.{after_entry, after_rest}
use Rattle.expansion.specs.ToCome.{one_gathered, place_after, one_told, none_told}
use Rattle.expansion.proofs.MergeLemmas.{next_is, same_next}
use Rattle.expansion.proofs.TogetherLemmas.{left_from}

-- ---- turns

pub next_of_is : (ms : List MemberNow) (o : Option ℕ) → IsNext (cursors_of ms) o → next_of ms ≡ o
next_of_is ms o h = same_next (cursors_of ms) (length (cursors_of ms)) (next_among (cursors_of ms)) o (next_is (cursors_of ms)) h

pub first_left : (ms : List MemberNow) (m : ℕ) → IsNext (cursors_of ms) (Some m) → has_left ms m ≡ true
first_left ms m h = left_from ms (cursors_of ms) m refl ∙ h.left

entry_some : (ps : List PlacedNow) (number : ℕ) → number < total ps → entry_in ps number ≡ None → ⊥
entry_some [] number below none = omega arith
entry_some (p ∷ ps) number below none = by (nat_lt number (entries p)) refl (λ h e. entry_some ps (number - entries p) h e)
  where
    by : (b : Bool) → nat_lt number (entries p) ≡ b → (number - entries p < total ps → entry_in ps (number - entries p) ≡ None → ⊥) → ⊥
    by true e more = let h = rw e at none in cc
    by false e more = let past : entries p ≤ number = grind (arith, nat_tests) in more (omega arith) (rw e at none)

pub left_entry : (ms : List MemberNow) (m : ℕ) → has_left ms m ≡ true → next_entry (member_or (slice_get ms m)) ≡ None → ⊥
left_entry ms m left none =
    let x = member_or (slice_get ms m) in
    let below = ltb-true _ _ left in
    entry_some x.lists x.taken (omega arith) none

abbrev entry_here : PlacedNow → ℕ → Option (PlacedNow × ℕ)
entry_here p place = Some (p, place)

entry_within : (ps : List PlacedNow) (number place : ℕ) (p : PlacedNow) → entry_in ps number ≡ Some (p, place) → place < entries p
entry_within [] number place p e = absurd (cc)
entry_within (q ∷ ps) number place p e = by (nat_lt number (entries q)) refl (λ h. entry_within ps (number - entries q) place p h)
  where
    at : (k : ℕ) → k < entries q → entry_here q k ≡ entry_here p place → place < entries p
    at k below same =
        let d : PlacedNow × ℕ = (q, k) in
        let one : q ≡ p = ap (λ (o : Option (PlacedNow × ℕ)). (unwrap_or o d).0) same in
        let two : k ≡ place = ap (λ (o : Option (PlacedNow × ℕ)). (unwrap_or o d).1) same in
        rw (← one, ← two) below

    by : (b : Bool) → nat_lt number (entries q) ≡ b → (entry_in ps (number - entries q) ≡ Some (p, place) → place < entries p) → place < entries p
    by true f more = let below : number < entries q = grind (arith, nat_tests) in at number below (rw f at e)
    by false f more = more (rw f at e)

pub items_more : (d : Deed) → entry_count d ≤ item_count d
items_more (deed.Access a) = omega arith
items_more (deed.Command who what) = omega arith
items_more (deed.Raw words) = omega arith
items_more (deed.Note words) = omega arith

pub turn_within : (m : MemberNow) (place : ℕ) (p : PlacedNow) → next_entry m ≡ Some (p, place) → place < item_count p.deed
turn_within m place p e =
    let below = entry_within m.lists m.taken place p e in
    let more = items_more p.deed in
    omega arith

-- ---- lists that are gathered

one_more_list : (t : Told) (r : Bool) (bs : List Burst) (b : Burst) (g : Gathered) → lists_gathered t r (bs ++ b ∷ []) g ≡ one_gathered t r b (lists_gathered t r bs g)
one_more_list t r [] b g = refl
one_more_list t r (a ∷ bs) b g = one_more_list t r bs b (one_gathered t r a g)

pub gather_more : (t t0 : Told) (r : Bool) (bs : List Burst) (b : Burst) (g0 g n : Option Gathered) → t ≡ t0 → g ≡ option_map (lists_gathered t0 r bs) g0 → n ≡ option_map (one_gathered t r b) g
    → n ≡ option_map (lists_gathered t0 r (bs ++ b ∷ [])) g0
gather_more t t0 r bs b None g n same held e = e ∙ ap (λ (o : Option Gathered). option_map (one_gathered t r b) o) held
gather_more t t0 r bs b (Some x) g n same held e =
    e ∙ ap (λ (o : Option Gathered). option_map (one_gathered t r b) o) held ∙ ap (λ (u : Told). Some (one_gathered u r b (lists_gathered t0 r bs x))) same ∙ ap (λ (y : Gathered). Some y) (sym (one_more_list t0 r bs b x))

-- ---- an item of a line

pub told_item : (x a n : Expansion) (b : Burst) (k : ℕ) → a ≡ record x { scene = stands x.scene (after_entry b.deed x.taken x.scene.tasks.standings) } → k ≡ place_after x.taken
    → n ≡ record a { taken = k; told_turn = None; told_line = a.line; told_rounds = n.told_rounds } → n ≡ one_told b n.told_rounds x
told_item x a n b k admitted after told =
    told ∙ ap (λ (y : Expansion). record y { taken = k; told_turn = None; told_line = y.line; told_rounds = n.told_rounds }) admitted ∙ ap (λ (j : ℕ). record (one_told b n.told_rounds x) { taken = j }) after

pub untold_item : (x a n : Expansion) (b : Burst) (k : ℕ) → a ≡ record x { scene = stands x.scene (after_entry b.deed x.taken x.scene.tasks.standings) } → k ≡ place_after x.taken
    → n ≡ record a { taken = item_count b.deed; scene = stands a.scene (after_rest b.deed k a.scene.tasks.standings) } → n ≡ none_told b x
untold_item x a n b k admitted after left =
    left ∙ ap (λ (y : Expansion). record y { taken = item_count b.deed; scene = stands y.scene (after_rest b.deed k y.scene.tasks.standings) }) admitted
    ∙ ap (λ (j : ℕ). record x { taken = item_count b.deed; scene = stands x.scene (after_rest b.deed j (after_entry b.deed x.taken x.scene.tasks.standings)) }) after

pub others_again : (x y n : Expansion) → y ≡ record x { scene = y.scene; gathered = y.gathered } → n ≡ record y { scene = n.scene; gathered = n.gathered } → n ≡ record x { scene = n.scene; gathered = n.gathered }
others_again x y n held e = e ∙ ap (λ (z : Expansion). record z { scene = n.scene; gathered = n.gathered }) held
