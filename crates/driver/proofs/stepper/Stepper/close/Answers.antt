use Rattle.std.specs.Prelude.{reverse}
use Rattle.std.proofs.Common.{◌≡◌, List, true, refl, ap, sym, subst}
use Rattle.machine.specs.declared.entry.Entry.{Entry}
use Rattle.machine.specs.History.{at_first, Honest, Right}
use Rattle.driver.specs.Schedule.{World, files_on}
use Rattle.driver.proofs.ErrorLemmas.{errors_are_failures}
use Rattle.driver.proofs.Faithful.{runs_are_honest}
use Rattle.driver.proofs.TracedLemmas.{honest-given_up}
use Rattle.driver.proofs.stepper.Stepper.close.Goals as goal

pub returns-clause-closes : goal.returns-clause-closes
returns-clause-closes g c = λ config before steps answers fit ran.
    let end : World = c.args.self in
    let same : c.self.inside.desk.book.history ≡ end.past.history = ap (λ (w : World). w.past.history) c.self.view_is in
    let H : List Entry → Type 0 = λ (l : List Entry). Honest (at_first (files_on config before)) l in
    let R : List Entry → Type 0 = λ (l : List Entry). Right (at_first (files_on config before)) l in
    let honest : H end.past.history = runs_are_honest config before steps answers end fit ran in
    let given : H c.self.inside.desk.book.history = subst H (sym same) honest in
    record {
      schedules = record { end = end; runs = ran; device = refl; honest = honest; right = subst R same (c.history_is_right.ensures.right (files_on config before) given) };
      ends = refl;
      failures = errors_are_failures config before steps answers end ran;
      passes = c.close-trace.ensures.passes (files_on config before) (honest-given_up (at_first (files_on config before)) c.self.inside.desk.book.history (reverse c.close-trace.result.entries) c.close-trace.ensures.traced given);
    }
