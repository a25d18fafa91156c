use Rattle.std.proofs.Common.{List, ℕ, subst}
use Rattle.std.specs.String.{string_bytes}
use Rattle.std.specs.Io.KnownBytes.{Appends}
use Rattle.std.specs.List.{before_first}
use Rattle.driver.specs.Schedule.{first_world}
use Rattle.explorer.specs.Explored.{findings}
use Rattle.explorer.specs.Outcome.{disk_of}
use Rattle.division.specs.declared.said.Said.{Said}
use Rattle.explore.specs.Explores.{Explains}
use Rattle.division.specs.Sorting.{goes}
use Rattle.division.specs.Trial.{IsAccepted, IsTrialFault}
use Rattle.explore.proofs.ExploresLemmas.{are_parts, sets-up, explored, unparted, unset, unrun, unshown}
use Rattle.division.proofs.FaultLemmas.{handed_on}
use Rattle.explore.proofs.report.explore_script.Goals as goal

pub returns-in-Ok-write_all-clause-explores : goal.returns-in-Ok-write_all-clause-explores
returns-in-Ok-write_all-clause-explores g c =
    let A : List Said → Type 0 = λ (l : List Said). IsAccepted (first_world c.in_ok-parts.parts.config (disk_of c.in_ok-parts.parts)) (before_first goes l) in
    let P : List ℕ → Type 0 = λ (bs : List ℕ). Appends (g.O.Write.contents c.args.out.now) (g.O.Write.contents c.write_all.new.self) bs in
    explored c.args.asked c.args.script.now c.in_ok-parts.parts c.in_ok-found.found.walk (findings c.in_ok-found.found)
    (string_bytes c.in_ok-text.text) c.verdict_of.result _ _ c.in-Ok.ensures.faultless
    (are_parts c.args.asked c.args.script.now c.in-Ok.read.config c.in-Ok.read.read_faults c.in-Ok.read.write_faults c.in-Ok.read.schedule c.in_ok-parts.parts
    c.in-Ok.ensures.faultless c.in-Ok.ensures.config c.in-Ok.ensures.read_faults c.in-Ok.ensures.write_faults c.in-Ok.ensures.steps c.in-Ok.ensures.lines
    c.in_ok-parts.ensures.config c.in_ok-parts.ensures.read_faults c.in_ok-parts.ensures.write_faults c.in_ok-parts.ensures.divided)
    (sets-up c.args.asked c.args.script.now c.in-Ok.read.schedule c.in_ok-parts.parts c.in_ok-parts.lines.items c.in-Ok.ensures.faultless c.in-Ok.ensures.steps c.in-Ok.ensures.lines
    (are_parts c.args.asked c.args.script.now c.in-Ok.read.config c.in-Ok.read.read_faults c.in-Ok.read.write_faults c.in-Ok.read.schedule c.in_ok-parts.parts
    c.in-Ok.ensures.faultless c.in-Ok.ensures.config c.in-Ok.ensures.read_faults c.in-Ok.ensures.write_faults c.in-Ok.ensures.steps c.in-Ok.ensures.lines
    c.in_ok-parts.ensures.config c.in_ok-parts.ensures.read_faults c.in_ok-parts.ensures.write_faults c.in_ok-parts.ensures.divided)
    c.in_ok-parts.ensures.lines (subst A c.deref.ensures.value c.in_ok-try_setup.ensures.accepts))
    c.in_ok-found.ensures.found c.in_ok-text.ensures.list
    (subst P c.as_bytes.ensures.value c.in-Ok-write_all.ensures.bytes) c.verdict_of.ensures

pub returns-in_err-parts-clause-why : goal.returns-in_err-parts-clause-why
returns-in_err-parts-clause-why g c =
    handed_on c.from_residual.result c.in_err-parts.field-0.0 (Explains c.args.asked c.args.script.now) c.from_residual.ensures.1
    (unparted c.args.asked c.args.script.now c.in-Ok.read.schedule c.in_err-parts.field-0.0 c.in-Ok.ensures.faultless c.in-Ok.ensures.steps c.in-Ok.ensures.lines c.in_err-parts.ensures.why)

pub returns-in_err-try_setup-clause-why : goal.returns-in_err-try_setup-clause-why
returns-in_err-try_setup-clause-why g c =
    let P : List Said → Type 0 = λ (l : List Said). IsTrialFault (first_world c.in_ok-parts.parts.config (disk_of c.in_ok-parts.parts)) (before_first goes l) c.in_err-try_setup.field-0.0 in
    handed_on c.from_residual-in_err-try_setup.result c.in_err-try_setup.field-0.0 (Explains c.args.asked c.args.script.now) c.from_residual-in_err-try_setup.ensures.1
    (unset c.args.asked c.args.script.now c.in-Ok.read.schedule c.in_ok-parts.parts c.in_ok-parts.lines.items c.in_err-try_setup.field-0.0 c.in-Ok.ensures.faultless c.in-Ok.ensures.steps c.in-Ok.ensures.lines
    (are_parts c.args.asked c.args.script.now c.in-Ok.read.config c.in-Ok.read.read_faults c.in-Ok.read.write_faults c.in-Ok.read.schedule c.in_ok-parts.parts
    c.in-Ok.ensures.faultless c.in-Ok.ensures.config c.in-Ok.ensures.read_faults c.in-Ok.ensures.write_faults c.in-Ok.ensures.steps c.in-Ok.ensures.lines
    c.in_ok-parts.ensures.config c.in_ok-parts.ensures.read_faults c.in_ok-parts.ensures.write_faults c.in_ok-parts.ensures.divided)
    c.in_ok-parts.ensures.lines (subst P c.deref.ensures.value c.in_err-try_setup.ensures.why))

pub returns-in_err-found-clause-why : goal.returns-in_err-found-clause-why
returns-in_err-found-clause-why g c =
    handed_on c.from_residual-in_err-found.result c.in_err-found.field-0.0 (Explains c.args.asked c.args.script.now) c.from_residual-in_err-found.ensures.1
    (unrun c.args.asked c.args.script.now c.in_err-found.field-0.0 c.in-Ok.ensures.faultless c.in_err-found.ensures.why)

pub returns-in_err-text-clause-why : goal.returns-in_err-text-clause-why
returns-in_err-text-clause-why g c =
    handed_on c.from_residual-in_err-text.result c.in_err-text.field-0.0 (Explains c.args.asked c.args.script.now) c.from_residual-in_err-text.ensures.1
    (unshown c.args.asked c.args.script.now c.in_ok-parts.parts c.in_ok-found.found.walk (findings c.in_ok-found.found) c.in_err-text.field-0.0 c.in-Ok.ensures.faultless
    (are_parts c.args.asked c.args.script.now c.in-Ok.read.config c.in-Ok.read.read_faults c.in-Ok.read.write_faults c.in-Ok.read.schedule c.in_ok-parts.parts
    c.in-Ok.ensures.faultless c.in-Ok.ensures.config c.in-Ok.ensures.read_faults c.in-Ok.ensures.write_faults c.in-Ok.ensures.steps c.in-Ok.ensures.lines
    c.in_ok-parts.ensures.config c.in_ok-parts.ensures.read_faults c.in_ok-parts.ensures.write_faults c.in_ok-parts.ensures.divided)
    c.in_ok-found.ensures.found c.in_err-text.ensures.why)
