-- Paths that begin with others, and words that are none.
use Rattle.std.proofs.Common.{◌≡◌, ℕ, ◌<◌, Bool, true, false, eqb, List, [], ◌∷◌, ◌++◌, length, drop, Err, IsTrue, refl, sym, ap, subst, ◌∙◌, append-nil, length-drop, arith, rules}
use Rattle.std.proofs.Math.Seq.{drop-length}
use Rattle.std.proofs.lemmas.Bool.{eqb-true, false≢true}
use Rattle.std.proofs.lemmas.Slice.Eq.{starts_is, bytes_eq-Decides}
use Rattle.scenario_words.specs.declared.fault.Cause.TheVariants as cause
use Rattle.scenario_words.specs.Paths.{begins_with, path_by}
use Rattle.scenario_words.specs.Words.{FilledWord, word_fault}

-- ---- other paths

whole_rest : (p q : List (List ℕ)) → length p ≡ length q → p ≡ q ++ drop (length q) p → p ≡ q
whole_rest p q l e =
    let none : drop (length q) p ≡ [] = subst (λ (n : ℕ). drop n p ≡ []) l (drop-length p) in
    e ∙ ap (λ (more : List (List ℕ)). q ++ more) none ∙ append-nil q

pub same : (p q : List (List ℕ)) (r : Bool) → r ≡ begins_with p q → length p ≡ length q → (IsTrue r → p ≡ q) × (p ≡ q → IsTrue r)
same p q true e l = (λ _. whole_rest p q l ((starts_is bytes_eq-Decides p q true e).0 refl), λ _. search rules)
same p q false e l = (λ h. absurd (search rules), λ s. absurd (false≢true ((starts_is bytes_eq-Decides p q false e).1 [] (s ∙ sym (append-nil q)))))

some_rest : (p q more : List (List ℕ)) → 0 < length more → p ≡ q ++ more → (n : List ℕ) × (ns : List (List ℕ)) × (p ≡ q ++ n ∷ ns)
some_rest p q [] some e = absurd (omega arith)
some_rest p q (n ∷ ns) some e = (n, ns, e)

pub below : (p q : List (List ℕ)) (r : Bool) → r ≡ begins_with p q → length q < length p
    → (IsTrue r → (n : List ℕ) × (ns : List (List ℕ)) × (p ≡ q ++ n ∷ ns)) × (((n : List ℕ) × (ns : List (List ℕ)) × (p ≡ q ++ n ∷ ns)) → IsTrue r)
below p q true e l = (λ _. some_rest p q (drop (length q) p) (omega (arith, length-drop (length q) p)) ((starts_is bytes_eq-Decides p q true e).0 refl), λ _. search rules)
below p q false e l = (λ h. absurd (search rules), λ s. absurd (false≢true ((starts_is bytes_eq-Decides p q false e).1 (s.0 ∷ s.1) s.2)))

-- ---- words

by_slash : (w : FilledWord) (b : ℕ) (bs : List ℕ) (t : Bool) → eqb b 47 ≡ t → ((rest : List ℕ) → b ∷ bs ≡ 47 ∷ rest → ⊥) → path_by w (b ∷ bs) ≡ Err (word_fault w cause.Path)
by_slash w b bs true e h = absurd (h bs (ap (λ (x : ℕ). x ∷ bs) (eqb-true b 47 e)))
by_slash w b bs false e h = rw e refl

pub no_path : (w : FilledWord) (text : List ℕ) → ((rest : List ℕ) → text ≡ 47 ∷ rest → ⊥) → path_by w text ≡ Err (word_fault w cause.Path)
no_path w [] h = refl
no_path w (b ∷ bs) h = by_slash w b bs (eqb b 47) refl h
