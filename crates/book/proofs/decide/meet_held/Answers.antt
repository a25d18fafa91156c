use Rattle.std.proofs.Common.{◌≡◌, ◌∙◌, false, ap, refl, arith}
use Rattle.std.specs.Prelude.{nat_lt}
use Rattle.std.proofs.lemmas.Bool.Decides.{nat_tests}
use Rattle.machine.specs.Tasks.{PageTables, mappers}
use Rattle.book.proofs.JudgeLemmas.{meets-held}
use Rattle.book.proofs.decide.meet_held.Goals as goal

pub returns-in-Read : goal.returns-in-Read
returns-in-Read c = (c.requires, meets-held c.args.state.now.tables c.args.fault.task.0 c.args.page.0 c.args.frame.0 c.args.fault.place c.args.fault.op c.requires.label c.requires.found c.requires.stands (rw c.in-Virtual.is (rw c.in-Read.is refl)))

pub returns-else-mappers-gt1 : goal.returns-else-mappers-gt1
returns-else-mappers-gt1 c =
    let count = c.mappers.ensures ∙ ap (λ (ts : PageTables). mappers ts c.args.page.0) c.spaces.ensures.page_tables in
    let few = c.if-mappers-gt1.false in
    let alone : nat_lt 1 (mappers c.args.state.now.tables.page_tables c.args.page.0) ≡ false = grind (arith, nat_tests, count, few) in
    (c.requires, meets-held c.args.state.now.tables c.args.fault.task.0 c.args.page.0 c.args.frame.0 c.args.fault.place c.args.fault.op c.requires.label c.requires.found c.requires.stands (rw c.in-Virtual.is (rw c.in-Write.is alone)))

pub returns-in-File : goal.returns-in-File
returns-in-File c = (c.requires, meets-held c.args.state.now.tables c.args.fault.task.0 c.args.page.0 c.args.frame.0 c.args.fault.place c.args.fault.op c.requires.label c.requires.found c.requires.stands (rw c.in-File.is refl))
