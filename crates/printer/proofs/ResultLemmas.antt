-- What is known of a result, case by case.
use Rattle.std.proofs.Common.{refl}
use Rattle.std.specs.Prelude.{Result, Ok, Err, IsErr, IfOk, IfErr, OnOk, OnErr}

pub on_any_err : {T E P : Type 0} (r : Result T E) → P → OnErr r P
on_any_err (Ok x) p = tt
on_any_err (Err e) p = p

pub on_ok : {T E P Q : Type 0} (r : Result T E) → OnOk r P → (P → Q) → OnOk r Q
on_ok (Ok x) p f = f p
on_ok (Err e) p f = tt

pub ok_both : {T E Q R : Type 0} {P : T → Type 0} (r : Result T E) → IfOk r P → OnOk r Q → ((x : T) → P x → Q → R) → OnOk r R
ok_both (Ok x) p q f = f x p q
ok_both (Err e) p q f = tt

pub err_both : {T E P Q R : Type 0} (r : Result T E) → OnErr r P → OnErr r Q → (P → Q → R) → OnErr r R
err_both (Ok x) p q f = tt
err_both (Err e) p q f = f p q

pub err_more : {T E : Type 0} {P Q : E → Type 0} (r : Result T E) → IfErr r P → ((e : E) → P e → Q e) → IfErr r Q
err_more (Ok x) p f = tt
err_more (Err e) p f = f e p

-- it can't be the first, so all is known of the second
pub err_only : {T E Q R : Type 0} {P : T → Type 0} (r : Result T E) → IfOk r P → OnErr r Q → OnErr r R → ((x : T) → P x → ⊥) → IsErr r × Q × R
err_only (Ok x) p q s never = absurd (never x p)
err_only (Err e) p q s never = (refl, q, s)
