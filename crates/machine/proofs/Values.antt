-- What follows from values that are equal, and from those that cannot be.
use Rattle.std.proofs.Common.{◌≡◌, Bool, true, false, Option, Some, None}

pub some_inj : {T : Type 0} {x y : T} → Some x ≡ Some y → x ≡ y
some_inj e = cc

pub never_some : {P : Type 0} {T : Type 0} {x : T} (o : Option T) → o ≡ None → o ≡ Some x → P
never_some o e f = cc

pub unlike : {P : Type 0} (b : Bool) → b ≡ true → b ≡ false → P
unlike b e f = cc
