use Rattle.std.proofs.Common.{refl}
use Rattle.std.specs.Prelude.{Ok, Err}
use Rattle.driver.proofs.calls.read_in.Goals as goal

pub returns-in-Ok-clause-read : goal.returns-in-Ok-clause-read
returns-in-Ok-clause-read g c = record { answered = Ok tt; filled = c.read_from.new.self; reads = c.in-Ok.ensures.read; same = c.in-Ok.ensures.same; goes = refl }

pub returns-in-Err-clause-read : goal.returns-in-Err-clause-read
returns-in-Err-clause-read g c = record { answered = Err c.in-Err.field-0; filled = c.read_from.new.self; reads = c.in-Err.ensures.read; same = c.in-Err.ensures.same; goes = refl }
