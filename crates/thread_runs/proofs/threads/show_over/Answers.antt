use Rattle.thread_runs.proofs.EndLemmas.{prints_showing}
use Rattle.thread_runs.proofs.threads.show_over.Goals as goal

pub returns-in-Ok-flushed-clause-whole : goal.returns-in-Ok-flushed-clause-whole
returns-in-Ok-flushed-clause-whole g c =
    prints_showing c.args.script.config g.L.Opened.opening c.args.script.setup.items _ _ c.in-Ok-ran.verdict _ _ _ c.requires.opened c.in-Ok-ran.ensures.whole c.flush-flushed.ensures.bytes
