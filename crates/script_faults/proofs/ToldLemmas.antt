-- What is told of a fault.
use Rattle.std.proofs.Common.{◌≡◌, ℕ, List, [], Option, Some, None, IfSome, refl}
use Rattle.machine.specs.Control.{line}
use Rattle.script_faults.specs.declared.fault.Fault.{Fault}
use Rattle.printer.specs.Prints.{AppendsStart}
use Rattle.script_faults.specs.Told.{front_of, rest_of, Behind, AllTold}
use Rattle.printer.specs.SinkLaws.{starts-nil}

-- what is known, where something is
known_bytes : Option (List ℕ) → List ℕ
known_bytes None = []
known_bytes (Some bs) = bs

known_is : (known : Option (List ℕ)) → IfSome known (λ bs. known_bytes known ≡ bs)
unfolding known_bytes
known_is None = tt
known_is (Some bs) = refl

-- nothing was told yet
pub nothing-behind : (a : Option (List ℕ)) (front : List ℕ) (known : Option (List ℕ)) → Behind (AppendsStart a a) front known
nothing-behind a front known = record { rest = known_bytes known; is = known_is known; holds = starts-nil a _ }

pub nothing_told : (why : Fault) (a : Option (List ℕ)) → AllTold (AppendsStart a a) why
nothing_told why a = nothing-behind a (front_of why) (rest_of why)

-- a text of its own, as one line
pub text_told : (P : List ℕ → Type 0) (text : List ℕ) → P (line text) → Behind P [] (Some text)
text_told P text holds = record { rest = text; is = refl; holds = holds }
