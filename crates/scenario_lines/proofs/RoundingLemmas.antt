-- Sizes that are noted, and where a part is cut.
use Rattle.std.proofs.Common.{◌≡◌, ◌≢◌, ℕ, zero, suc, ◌+◌, ◌-◌, ◌*◌, ◌<◌, ◌≤◌, Bool, true, false, eqb, List, [], ◌∷◌, length, take, drop, slice_index, Option, Some, None, Bor, refl, sym, ap, ◌∙◌, arith}
use Rattle.std.specs.Prelude.{◌&&◌}
use Rattle.std.specs.Option.{option_map, MatchOption}
use Rattle.std.specs.Str.Pattern.{FindsText}
use Rattle.std.proofs.lemmas.Bool.{eqb-true}
use Rattle.scenarios.specs.Parts.{dots_from, halves}
use Rattle.scenario_words.specs.Words.{FilledWord}
use Rattle.scenario_lines.specs.declared.rounded.Rounded.{Rounded}
use Rattle.scenario_lines.specs.Rounding.{value_noted, values_noted}

-- ---- values of keys

pub value_more : (page : ℕ) (rs next : List Rounded) (ws : List FilledWord) (key n : ℕ) (whole : List Rounded) → key < n → next ≡ value_noted page rs ws (2 + 2 * key)
    → values_noted page rs ws (2 + 2 * key) (n - key) ≡ whole → values_noted page next ws (2 + 2 * (key + 1)) (n - (key + 1)) ≡ whole
value_more page rs next ws key n whole within e held =
    let k = n - (key + 1) in
    let place = 2 + 2 * key in
    let many : n - key ≡ suc k = omega arith in
    let after : 2 + 2 * (key + 1) ≡ place + 2 = omega arith in
    ap (λ (r : List Rounded). values_noted page r ws (2 + 2 * (key + 1)) k) e
    ∙ ap (λ p. values_noted page (value_noted page rs ws place) ws p k) after
    ∙ sym (ap (λ m. values_noted page rs ws place m) many)
    ∙ held

-- ---- the two points of a part

abbrev two : List ℕ
two = 46 ∷ (46 ∷ [])

and_false : (x : Bool) → (x && false) ≡ false
and_false true = refl
and_false false = refl

here_not : (b : ℕ) (bs : List ℕ) → ((r : List ℕ) → (b ∷ bs) ≢ (46 ∷ (46 ∷ r))) → (eqb b 46 && eqb (slice_index bs 0) 46) ≡ false
here_not b [] h = and_false (eqb b 46)
here_not b (c ∷ cs) h = by (eqb b 46) refl (eqb c 46) refl
  where
    by : (x : Bool) → eqb b 46 ≡ x → (y : Bool) → eqb c 46 ≡ y → (eqb b 46 && eqb c 46) ≡ false
    by true p true q = absurd (h cs (rw (eqb-true b 46 p, eqb-true c 46 q) refl))
    by true p false q = rw (p, q) refl
    by false p y q = rw p refl

here_is : (b : ℕ) (bs r : List ℕ) → (b ∷ bs) ≡ (46 ∷ (46 ∷ r)) → (eqb b 46 && eqb (slice_index bs 0) 46) ≡ true
here_is b bs r e =
    let p : b ≡ 46 = cc in
    let q : bs ≡ (46 ∷ r) = cc in
    rw (p, q) refl

no_dots : (s : List ℕ) (place : ℕ) → ((k : ℕ) → k ≤ length s → (r : List ℕ) → drop k s ≢ (46 ∷ (46 ∷ r))) → dots_from place s ≡ None
no_dots [] place h = refl
no_dots (b ∷ bs) place h = rw (here_not b bs (h 0 (omega arith))) (no_dots bs (place + 1) (λ k within. h (suc k) (omega arith)))

dots_at : (s : List ℕ) (place i : ℕ) (r : List ℕ) → drop i s ≡ (46 ∷ (46 ∷ r)) → ((k : ℕ) → k < i → (q : List ℕ) → drop k s ≢ (46 ∷ (46 ∷ q))) → dots_from place s ≡ Some (place + i)
dots_at [] place zero r e h = absurd cc
dots_at [] place (suc i) r e h = absurd cc
dots_at (b ∷ bs) place zero r e h = rw (here_is b bs r e) (ap (λ (n : ℕ). Some n) (omega arith))
dots_at (b ∷ bs) place (suc i) r e h =
    rw (here_not b bs (h 0 (omega arith))) (dots_at bs (place + 1) i r e (λ k within. h (suc k) (omega arith)) ∙ ap (λ (n : ℕ). Some n) (omega arith))

pub halved : (bs : List ℕ) (o : Option (Bor (List ℕ) × Bor (List ℕ)))
    → MatchOption o (FindsText two bs None) (λ x. (i : ℕ) × (j : ℕ) × FindsText two bs (Some (i, j)) × (x.0.now ≡ take i bs) × (x.1.now ≡ drop j bs) × (i ≤ j) × (length x.0.now ≡ i) × (length x.1.now + j ≡ length bs))
    → option_map (λ h. (h.0.now, h.1.now)) o ≡ halves bs
halved bs None h = sym (ap (λ (d : Option ℕ). option_map (λ at. (take at bs, drop (at + 2) bs)) d) (no_dots bs 0 h))
halved bs (Some x) h =
    let i = h.0 in
    let d : dots_from 0 bs ≡ Some (0 + i) = dots_at bs 0 i (drop h.1 bs) h.2.1.split h.2.0 in
    let ends : h.1 ≡ i + 2 = h.2.1.ends in
    let same : 0 + i ≡ i = omega arith in
    rw (d, same, h.3, h.4, ends) refl
