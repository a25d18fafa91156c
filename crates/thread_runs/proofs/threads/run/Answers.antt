use Rattle.script_faults.specs.Told.{StartsReport}
use Rattle.thread_runs.proofs.EndLemmas.{failed_status}
use Rattle.thread_runs.proofs.ResultLemmas.{some_more}
use Rattle.thread_runs.proofs.threads.run.Goals as goal

pub returns-clause-faulty : goal.returns-clause-faulty
returns-clause-faulty g c =
    some_more (g.I.Read.remaining c.args.script.now) c.read_and_run-ran.ensures.faulty
    (λ all failed n cause first.
    let here = failed n cause first in
    (failed_status c.read_and_run-ran.result c.status_of_run.result (λ why. StartsReport why (g.E.Write.contents c.args.err.now) (g.E.Write.contents c.status_of_run.new.err)) here.0 c.status_of_run.ensures.failed, here.1))
