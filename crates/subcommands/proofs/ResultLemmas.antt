-- What is known of a result, case by case.
use Rattle.std.specs.Prelude.{Result, Ok, Err, OnErr}

pub on_err : {T E P Q : Type 0} (r : Result T E) → OnErr r P → (P → Q) → OnErr r Q
on_err (Ok x) p f = tt
on_err (Err e) p f = f p
