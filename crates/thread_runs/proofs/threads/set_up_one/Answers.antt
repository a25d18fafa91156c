use Rattle.thread_runs.proofs.RoundLemmas.{sets_up-one}
use Rattle.thread_runs.proofs.threads.set_up_one.Goals as goal

pub returns-in-Ok-print_answers-clause-whole : goal.returns-in-Ok-print_answers-clause-whole
returns-in-Ok-print_answers-clause-whole g c =
    sets_up-one g.L.Opened.opening c.args.actor c.args.command c.args.crew.now.workers.items c.ask.new.self.workers.items c.in-Ok.answers.items _ _ c.in-Ok.ensures.asked (rw c.deref-in-Ok.ensures.value at c.in-Ok-print_answers.ensures)
