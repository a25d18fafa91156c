use Rattle.std.proofs.Common.{◌≡◌, ℕ, Bool, true, false, eqb, List, [], ◌∷◌, None, refl, ap, lit<}
use Rattle.std.proofs.lemmas.Bool.{eqb-true}
use Rattle.std.proofs.lemmas.Str.Pattern.{strip_prefix_char}
use Rattle.machine.specs.Names.{is_path}
use Rattle.text_forms.proofs.name.is_path.Goals as goal

by_slash : (b : ℕ) (names : List ℕ) (t : Bool) → eqb b 47 ≡ t → ((rest : List ℕ) → b ∷ names ≡ 47 ∷ rest → ⊥) → false ≡ is_path (b ∷ names)
by_slash b names true e h = absurd (h names (ap (λ (x : ℕ). x ∷ names) (eqb-true b 47 e)))
by_slash b names false e h = rw e refl

no_path : (word : List ℕ) → ((rest : List ℕ) → word ≡ 47 ∷ rest → ⊥) → false ≡ is_path word
no_path [] h = refl
no_path (b ∷ names) h = by_slash b names (eqb b 47) refl h

pub returns-in-None : goal.returns-in-None
returns-in-None c = no_path c.args.word.now (strip_prefix_char 47 c.args.word.now None c.in-None.ensures.cases (lit< tt))
