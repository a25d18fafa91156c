-- The two parts of a pass, behind the group that was served last and up to it, are the groups in the order in which they are asked.
use Rattle.std.proofs.Common.{◌⊎◌, inl, inr, ◌≡◌, ℕ, ◌+◌, ◌==◌, Bool, if◌then◌else◌, List, [], ◌∷◌, ◌++◌, drop, take, Option, Some, None, refl, sym, ap, ◌∙◌, arith, add-one}
use Rattle.std.specs.List.{position_from}
use Rattle.std.proofs.lemmas.Bool.{cases_Bool}
use Rattle.std.proofs.lemmas.Iterator.Adapters.{position_from-zero}
use Rattle.std.specs.Option.{option_eq}
use Rattle.machine.specs.declared.id.GroupId.{GroupId}
use Rattle.machine.specs.Order.{round_from, place_in, behind_place}
use Rattle.group_tree.specs.Tables.{number}
use Rattle.group_tree.specs.Walk.{behind}
use Rattle.reclaim.specs.Walk.{is_at, behind_last, up_to}

-- a group is the one that was served last, by any test of equality
pub is_at-same : (eq : GroupId → GroupId → Bool) → ((a b : GroupId) → eq a b ≡ (a.0 == b.0)) → (g : GroupId) (last : Option GroupId) → is_at (number last) g.0 ≡ option_eq eq (Some g) last
is_at-same eq same g None = refl
is_at-same eq same g (Some a) = sym (same g a)

pub up_to-none : (gs : List ℕ) → up_to gs None ≡ gs
up_to-none [] = refl
up_to-none (g ∷ gs) = ap (λ rest. g ∷ rest) (up_to-none gs)

-- the list comes to the group at its i-th place, counted from k
record ComesTo (g k i : ℕ) (gs : List ℕ) : Type 0 where
  pub found : position_from (λ a. a == g) k gs ≡ Some (k + i)
  pub later : behind gs g ≡ drop (i + 1) gs
  pub sooner : up_to gs (Some g) ≡ take (i + 1) gs

-- or it does not come to it
record Misses (g k : ℕ) (gs : List ℕ) : Type 0 where
  pub found : position_from (λ a. a == g) k gs ≡ None
  pub later : behind gs g ≡ []
  pub sooner : up_to gs (Some g) ≡ gs

cases : (g k : ℕ) (gs : List ℕ) → ((i : ℕ) × ComesTo g k i gs) ⊎ Misses g k gs
cases g k [] = inr (record { found = refl; later = refl; sooner = refl })
cases g k (a ∷ gs) =
    elim (cases_Bool (a == g)) [
      | inl here ↦
          inl (
            0,
            record {
              found = ap (λ b. if b then Some k else position_from (λ c. c == g) (k + 1) gs) here ∙ ap Some (let same : k ≡ k + 0 = omega arith in same);
              later = ap (λ b. if b then gs else behind gs g) here;
              sooner = ap (λ b. a ∷ (if b then [] else up_to gs (Some g))) here;
            },
          )
      | inr other ↦ elim (cases g (k + 1) gs) [
        | inl (i, comes) ↦
            inl (
              i + 1,
              record {
                found =
                    ap (λ b. if b then Some k else position_from (λ c. c == g) (k + 1) gs) other ∙ comes.found ∙ ap Some (let same : k + 1 + i ≡ k + (i + 1) = omega arith in same);
                later = ap (λ b. if b then gs else behind gs g) other ∙ comes.later ∙ ap (λ n. drop n (a ∷ gs)) (sym (add-one (i + 1)));
                sooner =
                    ap (λ b. a ∷ (if b then [] else up_to gs (Some g))) other ∙ ap (λ rest. a ∷ rest) comes.sooner ∙ ap (λ n. take n (a ∷ gs)) (sym (add-one (i + 1)));
              },
            )
        | inr misses ↦
            inr
            (record {
              found = ap (λ b. if b then Some k else position_from (λ c. c == g) (k + 1) gs) other ∙ misses.found;
              later = ap (λ b. if b then gs else behind gs g) other ∙ misses.later;
              sooner = ap (λ b. a ∷ (if b then [] else up_to gs (Some g))) other ∙ ap (λ rest. a ∷ rest) misses.sooner;
            })
      ]
    ]

pub parts : (gs : List ℕ) (last : Option ℕ) → behind_last gs last ++ up_to gs last ≡ round_from gs (place_in gs last)
parts gs None = up_to-none gs
parts gs (Some g) =
    elim (cases g 0 gs) [
      | inl (i, comes) ↦
          (let place : place_in gs (Some g) ≡ Some i = position_from-zero (λ a. a == g) gs ∙ comes.found ∙ ap Some (let same : 0 + i ≡ i = omega arith in same) in
          ap (λ xs. xs ++ up_to gs (Some g)) comes.later ∙ ap (λ xs. drop (i + 1) gs ++ xs) comes.sooner ∙ sym (ap (round_from gs) place))
      | inr misses ↦
          (let place : place_in gs (Some g) ≡ None = position_from-zero (λ a. a == g) gs ∙ misses.found in
          ap (λ xs. xs ++ up_to gs (Some g)) misses.later ∙ misses.sooner ∙ sym (ap (round_from gs) place))
    ]

-- what is behind the group that was served last
pub behind-place : (gs : List ℕ) (last : Option ℕ) → behind_last gs last ≡ behind_place gs (place_in gs last)
behind-place gs None = refl
behind-place gs (Some g) =
    elim (cases g 0 gs) [
      | inl (i, comes) ↦
          (let place : place_in gs (Some g) ≡ Some i = position_from-zero (λ a. a == g) gs ∙ comes.found ∙ ap Some (let same : 0 + i ≡ i = omega arith in same) in
          comes.later ∙ sym (ap (behind_place gs) place))
      | inr misses ↦
          (let place : place_in gs (Some g) ≡ None = position_from-zero (λ a. a == g) gs ∙ misses.found in
          misses.later ∙ sym (ap (behind_place gs) place))
    ]
