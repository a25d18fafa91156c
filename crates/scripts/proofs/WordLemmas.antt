-- Words are told apart by their places in the table.
use Rattle.std.proofs.Common.{◌≡◌, Bool, true, false, List, [], ◌∷◌, refl, sym, ap, ◌∙◌, subst, rules}
use Rattle.std.specs.Prelude.{slice_index_or}
use Rattle.std.specs.List.{list_any}
use Rattle.std.proofs.lemmas.Bool.{eqb-true}
use denote.Enum.Bare.{sameb, same_true}
use Rattle.scripts.specs.contracts.forms.Word.{the_type}
use Rattle.scripts.specs.declared.forms.Word.{Word}
use Rattle.scripts.specs.declared.forms.Word.TheVariants as word
use Rattle.scripts.specs.Forms.{words, place, same_word}

found : (w : Word) → slice_index_or words (place w) word.Frames ≡ w
found word.Frames = refl
found _ = refl

itself : (w : Word) → sameb the_type w w ≡ true
itself word.Frames = refl
itself _ = refl

own : (w : Word) → same_word w w ≡ true
own word.Frames = refl
own _ = refl

by_test : (v w : Word) (t : Bool) → same_word w v ≡ t → sameb the_type v w ≡ same_word w v
by_test v w true e =
    let same : w ≡ v = sym (found w) ∙ ap (λ n. slice_index_or words n word.Frames) (eqb-true (place w) (place v) e) ∙ found v in
    subst (λ (x : Word). sameb the_type x w ≡ same_word w x) same (itself w ∙ sym (own w))
by_test v w false e = by_equality (sameb the_type v w) refl
  where
    by_equality : (t : Bool) → sameb the_type v w ≡ t → sameb the_type v w ≡ same_word w v
    by_equality true f = (let same : v ≡ w = same_true the_type (search rules) v w f in let yes : same_word w v ≡ true = subst (λ (x : Word). same_word w x ≡ true) (sym same) (own w) in absurd cc)
    by_equality false f = f ∙ sym e

-- so a word is among others exactly where its place is among theirs
pub among : (w : Word) (given : List Word) → list_any (λ v. sameb the_type v w) given ≡ list_any (same_word w) given
among w [] = refl
among w (v ∷ given) = rw (by_test v w (same_word w v) refl, among w given) refl
