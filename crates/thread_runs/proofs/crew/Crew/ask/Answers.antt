use Rattle.std.proofs.Common.{◌∙◌, ap, sym}
use Rattle.live.specs.Crews.{WorkerOf}
use Rattle.thread_runs.proofs.CrewLemmas.{numbers-set}
use Rattle.thread_runs.proofs.crew.Crew.ask.Goals as goal

pub invariant_of-self : goal.invariant_of-self
invariant_of-self g c =
    let was : WorkerOf = c.index_mut.result.now in
    let same = c.answer.ensures.actor ∙ ap (λ (w : WorkerOf). w.actor) c.index_mut.ensures.value in
    record { numbered = c.place.new.self.numbered ∙ sym (numbers-set c.place.new.self.workers.items c.in_ok-place.place c.answer.new.self was c.in_ok-place.ensures.placed.1 same) }
