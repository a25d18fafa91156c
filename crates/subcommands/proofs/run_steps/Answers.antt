use Rattle.std.proofs.Common.{◌≡◌, ℕ, List, ap, subst, ◌∙◌}
use Rattle.machine.specs.State.{blocks_of}
use Rattle.block_store.specs.Device.{Disk, new_disk}
use Rattle.printer.specs.Prints.{PrintsStart, EndsRun}
use Rattle.printer.proofs.ResultLemmas.{err_more}
use Rattle.printer.proofs.StartLemmas.{nothing_prints}
use Rattle.subcommands.proofs.ResultLemmas.{on_err}
use Rattle.subcommands.proofs.StartLemmas.{new_fits}
use Rattle.subcommands.proofs.run_steps.Goals as goal

pub returns-in-Err-clause-start : goal.returns-in-Err-clause-start
returns-in-Err-clause-start g c = λ plain. nothing_prints _ _ _ _ _ (new_fits c.args.script.config c.args.script.read_faults.items c.args.script.write_faults.items c.requires.limits) plain

pub returns-clause-start : goal.returns-clause-start
returns-clause-start g c =
    let script = c.args.script in
    let device : c.in-Ok.device ≡ new_disk (blocks_of script.config) script.read_faults.items script.write_faults.items =
    c.in-Ok.ensures
    ∙ ap (λ (faults : List ℕ). new_disk (blocks_of script.config) faults c.deref-2.result.now) c.deref.ensures.value ∙ ap (λ (faults : List ℕ). new_disk (blocks_of script.config) script.read_faults.items faults) c.deref-2.ensures.value in
    on_err c.run_on.result c.run_on.ensures.start
    (λ start plain.
    subst (λ (disk : Disk). PrintsStart script.config disk script.schedule.steps c.args.options (g.O.Write.contents c.args.out.now) (g.O.Write.contents c.run_on.new.out)) device
    (start plain))

pub returns-clause-refused : goal.returns-clause-refused
returns-clause-refused g c =
    let script = c.args.script in
    let device : c.in-Ok.device ≡ new_disk (blocks_of script.config) script.read_faults.items script.write_faults.items =
    c.in-Ok.ensures
    ∙ ap (λ (faults : List ℕ). new_disk (blocks_of script.config) faults c.deref-2.result.now) c.deref.ensures.value ∙ ap (λ (faults : List ℕ). new_disk (blocks_of script.config) script.read_faults.items faults) c.deref-2.ensures.value in
    err_more c.run_on.result c.run_on.ensures.refused
    (λ why ended refused plain.
    subst (λ (disk : Disk). EndsRun script.config disk script.schedule.steps c.args.options (g.O.Write.contents c.args.out.now) (g.O.Write.contents c.run_on.new.out)) device
    (ended refused plain))
