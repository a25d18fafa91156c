use Rattle.std.proofs.Common.{◌≡◌, ◌∷◌, [], List, length, subst, sym, arith}
use Rattle.std.proofs.lemmas.List.{map-append}
use Rattle.std.proofs.lemmas.Iterator.Adapters.{YieldsList-from_vec}
use Rattle.std.proofs.lemmas.Iterator.Consumers.{YieldsList-turn, YieldsList-so_far}
use Rattle.machine.specs.declared.command.Actor.{Actor}
use Rattle.machine.specs.declared.command.Command.{Command}
use Rattle.thread_runs.specs.Rounds.{HiredAll}
use Rattle.thread_runs.proofs.RisingLemmas.{Row, next_is_new}
use Rattle.thread_runs.proofs.RoundLemmas.{hired-push}
use Rattle.thread_runs.proofs.HandedLemmas.{counts-both}
use Rattle.thread_runs.proofs.threads.hire_all.Goals as goal

pub hire-requires : goal.hire-requires
hire-requires g c =
    let ok = c.args.work.ok.0 in
    let read = c.into_iter-actor-iterator.ensures.into_iter_gives.1 in
    let len : c.into_iter-actor-iterator.result.rest.len ≡ length c.args.work.items = omega (arith, ok, read) in
    let source = YieldsList-from_vec c.args.work.items c.into_iter-actor-iterator.ensures.into_iter_gives.0 len in
    let turn = YieldsList-turn source c.loop-actor.yielded c.loop-actor.actor-iterator c.loop-actor.yielded_by c.next.result c.next.new.self (c.in-Some.actor, c.in-Some.commands) c.in-Some.is c.next.ensures.steps in
    let so_far = YieldsList-so_far source c.loop-actor.yielded c.loop-actor.actor-iterator c.loop-actor.yielded_by in
    next_is_new c.args.work.items c.loop-actor.yielded (c.in-Some.actor, c.in-Some.commands) c.loop-actor.crew.workers.items c.requires turn.0 turn.1 so_far c.loop-actor.invariant.0.jobs

pub loop-actor-preserved : goal.loop-actor-preserved
loop-actor-preserved g c =
    let row : Row = (c.in-Some.actor, c.in-Some.commands) in (
      subst (λ (rows : List (Actor × List Command)). HiredAll rows c.hire.new.self.workers.items) (sym (map-append (λ (r : Row). (r.0, r.1.items)) c.loop-actor.yielded (row ∷ [])))
          (hired-push _ c.in-Some.actor c.in-Some.commands.items c.loop-actor.crew.workers.items c.hire.new.self.workers.items c.loop-actor.invariant.0 c.in_ok-hire.ensures.hired),
      counts-both _ _ _ [] c.loop-actor.crew.workers.items c.hire.new.self.workers.items c.loop-actor.invariant.1 c.in_ok-hire.ensures.counted,
    )
