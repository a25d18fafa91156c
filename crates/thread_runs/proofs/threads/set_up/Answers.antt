use Rattle.std.proofs.Common.{◌∷◌, [], refl}
use Rattle.thread_runs.proofs.HandedLemmas.{counts-both}
use Rattle.thread_runs.proofs.RoundLemmas.{sets_up-nil, sets_up-append}
use Rattle.thread_runs.proofs.threads.set_up.Goals as goal

pub loop-actor-preserved : goal.loop-actor-preserved
loop-actor-preserved g c = (
  sets_up-append g.L.Opened.opening c.loop-actor.yielded ((c.in-Some.actor, c.in-Some.command) ∷ []) c.args.crew.now.workers.items c.loop-actor.crew.workers.items c.set_up_one.new.crew.workers.items _ _ _ c.loop-actor.invariant.0 c.in_ok-set_up_one.ensures.whole,
  counts-both _ _ _ c.args.crew.now.workers.items c.loop-actor.crew.workers.items c.set_up_one.new.crew.workers.items c.loop-actor.invariant.1 c.in_ok-set_up_one.ensures.counted,
)

pub loop-actor-init : goal.loop-actor-init
loop-actor-init g c = (sets_up-nil g.L.Opened.opening c.args.crew.now.workers.items (g.O.Write.contents c.args.out.now), refl)
