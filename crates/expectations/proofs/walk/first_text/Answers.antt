use Rattle.std.proofs.Common.{◌≡◌, ℕ, Bool, true, false, cond, eqb, ltb, List, length, take, Some, None, refl, sym, ap}
use Rattle.std.specs.List.{position_or_len}
use Rattle.std.proofs.lemmas.Bool.{ltb-false}
use Rattle.std.proofs.lemmas.List.{take_all}
use Rattle.machine.proofs.Values.{some_inj}
use Rattle.expectations.specs.Expected.{first_text}
use Rattle.expectations.proofs.walk.first_text.Goals as goal

abbrev is_end : ℕ → Bool
is_end b = eqb b 10

at_end : (bs : List ℕ) (at : ℕ) (t : Bool) → ltb (position_or_len is_end bs) (length bs) ≡ t → cond t (Some (position_or_len is_end bs)) None ≡ Some at → take at bs ≡ first_text bs
at_end bs at false e h = absurd cc
at_end bs at true e h = ap (λ n. take n bs) (sym (some_inj h))

whole : (bs : List ℕ) (t : Bool) → ltb (position_or_len is_end bs) (length bs) ≡ t → cond t (Some (position_or_len is_end bs)) None ≡ None → bs ≡ first_text bs
whole bs true e h = absurd cc
whole bs false e h = sym (take_all (position_or_len is_end bs) bs (ltb-false _ _ e))

pub returns-in-Some : goal.returns-in-Some
returns-in-Some c = at_end c.args.output.now c.in-Some.at _ refl (sym c.in-Some.ensures)

pub returns-in-None : goal.returns-in-None
returns-in-None c = whole c.args.output.now _ refl (sym c.in-None.ensures)
