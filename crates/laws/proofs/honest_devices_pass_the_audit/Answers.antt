use Rattle.machine.specs.State.{opening_of}
use Rattle.legal.proofs.FirstBytesLemmas.{honest-first, right-first}
use Rattle.driver.specs.Schedule.{files_on}
use Rattle.driver.proofs.Faithful.{runs_are_honest}
use Rattle.laws.proofs.Legals.{runs_are_legal}
use Rattle.laws.proofs.honest_devices_pass_the_audit.Goals as goal

pub returns : goal.returns
returns c =
    λ config before steps answers end fit runs right.
    let legal = runs_are_legal config before steps answers end runs in
    let honest = runs_are_honest config before steps answers end fit runs in (
      honest-first (opening_of config) end.past.history end.past.state legal (files_on config before) honest,
      right-first (opening_of config) end.past.history end.past.state legal (files_on config before) honest right,
    )
