use Rattle.std.proofs.Common.{IfOk, subst}
use Rattle.machine.specs.State.{Opening}
use Rattle.turns.specs.Turns.{paths_of}
use Rattle.live.specs.Runs.{Looked}
use Rattle.live.proofs.SharedLemmas.{shared-judged}
use Rattle.live.proofs.shared_book.SharedBook.judge.Goals as goal

pub returns-clause-looked : goal.returns-clause-looked
returns-clause-looked g c =
    subst (λ (o : Opening). IfOk c.judge.result (λ judged. Looked o c.args.actor c.args.command.now c.args.pass.now.exchanges c.judge.new.self.exchanges judged)) c.self.invariant.0.opened c.judge.ensures.looked

pub invariant_of-self : goal.invariant_of-self
invariant_of-self g c =
    (shared-judged g.L.Opened.table g.L.Opened.opening c.self.inside.book c.self.inside.log c.self.invariant.0 c.args.pass.now.caller.worker (paths_of c.args.actor c.args.command.now) c.judge.new.log c.judge.result c.judge.ensures.log c.judge.ensures.unchanged, c.self.invariant.1, c.self.invariant.2)
