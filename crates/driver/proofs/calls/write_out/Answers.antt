use Rattle.std.proofs.Common.{refl}
use Rattle.std.specs.Prelude.{Ok, Err}
use Rattle.driver.proofs.calls.write_out.Goals as goal

pub returns-in-Ok-clause-write : goal.returns-in-Ok-clause-write
returns-in-Ok-clause-write g c = record { answered = Ok tt; writes = c.in-Ok.ensures.write; goes = refl }

pub returns-in-Err-clause-write : goal.returns-in-Err-clause-write
returns-in-Err-clause-write g c = record { answered = Err c.in-Err.field-0; writes = c.in-Err.ensures.write; goes = refl }
