use Rattle.std.proofs.Common.{◌≡◌, sym}
use Rattle.std.specs.Prelude.{nat_eq, position}
use Rattle.scripts.specs.Work.{number_of}
use Rattle.thread_runs.specs.Crews.{numbers_at}
use Rattle.thread_runs.proofs.CrewLemmas.{find-found, find-missing}
use Rattle.thread_runs.proofs.crew.Crew.find.Goals as goal

pub returns-clause-found : goal.returns-clause-found
returns-clause-found g c =
    let ws = c.args.self.now.workers.items in
    let looked_up : c.get_index_of.result ≡ position (nat_eq (number_of c.args.actor)) (numbers_at ws) = rw (sym c.number_of.ensures, sym c.args.self.now.numbered) c.get_index_of.ensures.index in
    find-found c.args.actor ws c.get_index_of.result looked_up

pub returns-clause-missing : goal.returns-clause-missing
returns-clause-missing g c =
    let ws = c.args.self.now.workers.items in
    let looked_up : c.get_index_of.result ≡ position (nat_eq (number_of c.args.actor)) (numbers_at ws) = rw (sym c.number_of.ensures, sym c.args.self.now.numbered) c.get_index_of.ensures.index in
    find-missing c.args.actor ws c.get_index_of.result looked_up
