-- Whether all arguments fit, from one pass over them.
use Rattle.std.proofs.Common.{◌≡◌, ℕ, Bool, true, false, ◌&&◌, List, [], ◌∷◌, fold, refl, sym, ap, ◌∙◌}
use Rattle.std.specs.List.{list_all}
use Rattle.scripts.specs.declared.check.Fits.{Fits}
use Rattle.scripts.specs.declared.forms.Kind.{Kind}
use Rattle.scripts.specs.Faults.{word_fits, number_fits, name_fits}
use Rattle.scripts.specs.Lines.{no_misfit, with_argument}

abbrev Placed : Type 0
Placed = Kind × List ℕ

and_true : (b : Bool) → (b && true) ≡ b
and_true true = refl
and_true false = refl

and_assoc : (a b c : Bool) → ((a && b) && c) ≡ (a && (b && c))
and_assoc true b c = refl
and_assoc false b c = refl

-- what each argument adds to by `&&`
kept : (get : Fits → Bool) (test : Placed → Bool) → ((fits : Fits) (p : Placed) → get (with_argument fits p) ≡ (get fits && test p))
    → (fits : Fits) (ps : List Placed) → get (fold with_argument fits ps) ≡ (get fits && list_all test ps)
kept get test step fits [] = sym (and_true (get fits))
kept get test step fits (p ∷ ps) = kept get test step (with_argument fits p) ps ∙ ap (λ b. b && list_all test ps) (step fits p) ∙ and_assoc (get fits) (test p) (list_all test ps)

pub words_kept : (ps : List Placed) → (fold with_argument no_misfit ps).words ≡ list_all (λ p. word_fits p.0 p.1) ps
words_kept ps = kept (λ fits. fits.words) (λ p. word_fits p.0 p.1) (λ fits p. refl) no_misfit ps

pub numbers_kept : (ps : List Placed) → (fold with_argument no_misfit ps).numbers ≡ list_all (λ p. number_fits p.0 p.1) ps
numbers_kept ps = kept (λ fits. fits.numbers) (λ p. number_fits p.0 p.1) (λ fits p. refl) no_misfit ps

pub names_kept : (ps : List Placed) → (fold with_argument no_misfit ps).names ≡ list_all (λ p. name_fits p.0 p.1) ps
names_kept ps = kept (λ fits. fits.names) (λ p. name_fits p.0 p.1) (λ fits p. refl) no_misfit ps
