use Rattle.std.proofs.Common.{refl, ◌∙◌}
use Rattle.division.specs.Faults.{IsUndivided}
use Rattle.division.proofs.DivisionLemmas.{divided, undivided}
use Rattle.division.proofs.FaultLemmas.{handed_on}
use Rattle.division.proofs.script.parts_of.Goals as goal

pub returns-clause-divided : goal.returns-clause-divided
returns-clause-divided c = λ is h. divided is c.deref.result.now c.in_ok-setup.field-0 _ (c.deref.ensures.value ∙ c.in_ok-said.ensures is h) c.in_ok-setup.ensures.sorted refl refl refl

pub returns-in_err-setup-clause-why : goal.returns-in_err-setup-clause-why
returns-in_err-setup-clause-why c = λ is h.
    handed_on c.from_residual-in_err-setup.result c.in_err-setup.field-0.0 (IsUndivided is) c.from_residual-in_err-setup.ensures.1
    (undivided is c.deref.result.now _ (c.deref.ensures.value ∙ c.in_ok-said.ensures is h) c.in_err-setup.ensures.why)
