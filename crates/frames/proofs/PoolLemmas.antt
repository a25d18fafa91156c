-- Free frames by their numbers.
use Rattle.std.proofs.Common.{◌≡◌, inl, inr, ℕ, ◌<◌, ◌==◌, true, List, [], ◌∷◌, ◌++◌, length, Option, Some, None, ap, ◌∙◌, subst, arith}
use Rattle.std.specs.Prelude.{IfSome}
use Rattle.std.specs.Option.{option_to_list}
use Rattle.std.proofs.lemmas.Bool.{cases_lt}
use Rattle.std.proofs.lemmas.List.{map-append, length-map}
use Rattle.counts.specs.Numbers.{times, AreFree}
use Rattle.counts.proofs.NumberLemmas.{times-push, AreFree-part}
use Rattle.frames.specs.Pool.{FrameOf, numbers_of}

pub numbers_of-append : (xs ys : List FrameOf) → numbers_of (xs ++ ys) ≡ numbers_of xs ++ numbers_of ys
numbers_of-append xs ys = map-append (λ f. f.number) xs ys

pub length-numbers_of : (xs : List FrameOf) → length (numbers_of xs) ≡ length xs
length-numbers_of xs = simp length-map

-- a frame more at the end
pub numbers_of-push : (old new : List FrameOf) (x : FrameOf) (k : ℕ) → new ≡ old ++ x ∷ [] → x.number ≡ k → numbers_of new ≡ numbers_of old ++ k ∷ []
numbers_of-push old new x k is number = ap numbers_of is ∙ numbers_of-append old (x ∷ []) ∙ ap (λ n. numbers_of old ++ n ∷ []) number

number_out : (free : List FrameOf) (taken : Option FrameOf) (frames room : ℕ) → AreFree (numbers_of free ++ numbers_of (option_to_list taken)) frames room → IfSome taken (λ f. times (numbers_of free) f.number ≡ 0)
number_out free None frames room is = tt
number_out free (Some f) frames room is =
    let once = is.once f.number in
    let more = times-push (numbers_of free) f.number f.number in
    let hit : (f.number == f.number) ≡ true = grind arith in
    grind (arith, once, more, hit)

number_in_range : (free : List FrameOf) (taken : Option FrameOf) (frames room : ℕ) → AreFree (numbers_of free ++ numbers_of (option_to_list taken)) frames room → IfSome taken (λ f. f.number < frames)
number_in_range free None frames room is = tt
number_in_range free (Some f) frames room is =
    elim (cases_lt f.number frames) [
      | inl lt ↦ lt
      | inr le ↦ absurd (let none = is.none_beyond f.number le in let more = times-push (numbers_of free) f.number f.number in let hit : (f.number == f.number) ≡ true = grind arith in grind (arith, none, more, hit))
    ]

-- what is left where a frame is taken from the end
module _ (all free : List FrameOf) (taken : Option FrameOf) (frames room : ℕ) (parts : all ≡ free ++ option_to_list taken) (is : AreFree (numbers_of all) frames room) where
  parted : AreFree (numbers_of free ++ numbers_of (option_to_list taken)) frames room
  parted = subst (λ xs. AreFree xs frames room) (ap numbers_of parts ∙ numbers_of-append free (option_to_list taken)) is

  pub AreFree-taken : AreFree (numbers_of free) frames room
  AreFree-taken = AreFree-part (numbers_of free) (numbers_of (option_to_list taken)) frames room parted

  -- the frame is out, and one of those that there are
  pub taken_out : IfSome taken (λ f. times (numbers_of free) f.number ≡ 0)
  taken_out = number_out free taken frames room parted

  pub taken_in_range : IfSome taken (λ f. f.number < frames)
  taken_in_range = number_in_range free taken frames room parted
