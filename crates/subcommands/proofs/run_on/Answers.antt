use Rattle.subcommands.proofs.run_on.Goals as goal

-- all was answered, but not all of it was written
pub returns-in-Ok-clause-start : goal.returns-in-Ok-clause-start
returns-in-Ok-clause-start g c = rw c.in-Ok.is at c.print_run-ran.ensures.short

pub returns-in-Ok-clause-why : goal.returns-in-Ok-clause-why
returns-in-Ok-clause-why g c = c.fault_of.ensures.why c.args.options (λ ended. ((rw c.in-Err.is at c.print_run-ran.ensures.ends) ended).1)

-- the run was cut short
pub returns-in-Err-Refused-clause-start : goal.returns-in-Err-Refused-clause-start
returns-in-Err-Refused-clause-start g c = rw c.in-Err-Refused.is at c.print_run-ran.ensures.start

pub returns-in-Ok-written-2-clause-start : goal.returns-in-Ok-written-2-clause-start
returns-in-Ok-written-2-clause-start g c = rw c.in-Err-Closed.is at c.print_run-ran.ensures.start

pub returns-clause-start : goal.returns-clause-start
returns-clause-start g c = rw c.in-Err-Closed.is at c.print_run-ran.ensures.start

pub returns-clause-why : goal.returns-clause-why
returns-clause-why g c = c.fault_of-in-Err-written.ensures.why c.args.options (λ ended. ((rw c.in-Err-written.is at c.print_run-ran.ensures.ends) ended).1)
