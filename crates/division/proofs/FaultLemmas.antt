-- Errors that are handed on.
use Rattle.std.proofs.Common.{◌≡◌, ℕ, Option, sym, subst}
use Rattle.std.specs.Prelude.{Result, Ok, Err, IfErr}
use Rattle.std.specs.Result.{IsErrAnd}
use Rattle.division.specs.declared.fault.Fault.{Fault}
use Rattle.division.specs.Faults.{IsUnshown}

pub handed_on : {T : Type 0} (r : Result T Fault) (why : Fault) (P : Fault → Type 0) → IsErrAnd r (λ (y : Fault). y ≡ why) → P why → IfErr r P
handed_on (Ok x) why P h p = tt
handed_on (Err y) why P h p = subst P (sym h) p

pub same_count : {T : Type 0} (r : Result T Fault) (show other : Option ℕ) (count more : ℕ) → show ≡ other → count ≡ more → IfErr r (IsUnshown show count) → IfErr r (IsUnshown other more)
same_count r show other count more e f h =
    let O : Option ℕ → Type 0 = λ (o : Option ℕ). IfErr r (IsUnshown o more) in
    let N : ℕ → Type 0 = λ (n : ℕ). IfErr r (IsUnshown show n) in
    subst O e (subst N f h)
