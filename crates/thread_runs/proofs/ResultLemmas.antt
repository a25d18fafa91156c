-- What is known of an option, case by case.
use Rattle.std.proofs.Common.{◌≡◌, ℕ, List, refl, subst, sym}
use Rattle.std.specs.Io.KnownBytes.{Keeps}
use Rattle.std.specs.Prelude.{Option, None, Some, IfSome}

-- what is known of a value, where there is one
pub some_more : {X : Type 0} {P Q : X → Type 0} (o : Option X) → IfSome o P → ((x : X) → P x → Q x) → IfSome o Q
some_more None h f = tt
some_more (Some x) h f = f x h

keeps-refl : (a : Option (List ℕ)) → Keeps a a
keeps-refl None = tt
keeps-refl (Some xs) = refl

-- what stays the same keeps what is known of it
pub keeps-same : (old new : Option (List ℕ)) → new ≡ old → Keeps old new
keeps-same old new same = subst (λ (n : Option (List ℕ)). Keeps old n) (sym same) (keeps-refl old)
