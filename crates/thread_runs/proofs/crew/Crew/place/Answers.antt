use Rattle.std.proofs.Common.{◌∙◌, ◌≡◌, length, sym, arith}
use Rattle.thread_runs.proofs.CrewLemmas.{hires-place}
use Rattle.thread_runs.proofs.crew.Crew.place.Goals as goal

pub returns-clause-placed : goal.returns-clause-placed
returns-clause-placed g c =
    let there = hires-place c.args.actor _ c.args.self.now.workers.items c.hire.new.self.workers.items c.in_ok-hire.ensures.hired in
    let ok = c.args.self.now.workers.ok.0 in
    let read = c.len-place.ensures in
    let len : c.len-place.result ≡ length c.args.self.now.workers.items = omega (arith, ok, read) in
    (len ∙ sym there.0, let within = there.1 in omega (arith, len, within))
