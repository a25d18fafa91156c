-- What a pass's fields mean, and what is always true of them.
use Rattle.std.specs.Prelude.{◌≡◌, ◌-◌, length, vec_capacity}
use Rattle.book.specs.declared.pass.Pass.TheInside.{Inside}
use Rattle.book.specs.Passes.{PassOf, count_of}

abbrev pub pass_of : Inside → PassOf
pass_of p = record { caller = record { worker = p.worker.0 }; kept = p.kept.items; room = vec_capacity p.kept - length p.kept.items }

pub record IsPass (p : Inside) : Type 0 where
  pub counted : p.count ≡ count_of p.kept.items
