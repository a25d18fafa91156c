use Rattle.std.proofs.Common.{inr}
use Rattle.subcommands.proofs.ResultLemmas.{on_err}
use Rattle.subcommands.proofs.run_script.Goals as goal

pub returns-in-Ok-clause-start : goal.returns-in-Ok-clause-start
returns-in-Ok-clause-start g c =
    on_err c.run_steps.result c.run_steps.ensures.start
    (λ start plain. let begun = start plain in inr (record { faultless = c.in-Ok.ensures.faultless; run = rw (c.in-Ok.ensures.config, c.in-Ok.ensures.read_faults, c.in-Ok.ensures.write_faults, c.in-Ok.ensures.steps) at begun }))
