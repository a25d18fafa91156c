use Rattle.counts.proofs.NumberLemmas.{AreFree-taken, taken_out, taken_in_range}
use Rattle.block_store.proofs.slots.Slots.take.Goals as goal
use Rattle.block_store.proofs.slots.Slots.take.Goals.{in-None, in-Some}

pub invariant_of-self : goal.invariant_of-self
invariant_of-self c = rw c.pop.ensures.capacity (AreFree-taken c.self.inside.free.items c.pop.new.self.items c.pop.result _ _ c.pop.ensures.items c.self.invariant)

pub returns-clause-out : goal.returns-clause-out
returns-clause-out c =
    elim c.match-pop.branch [
      | in-None w ↦ rw w.result-is tt
      | in-Some w ↦ (let out = rw w.in-Some.is at (taken_out c.self.inside.free.items c.pop.new.self.items c.pop.result _ _ c.pop.ensures.items c.self.invariant) in rw w.result-is out)
    ]

pub returns-clause-in_range : goal.returns-clause-in_range
returns-clause-in_range c =
    elim c.match-pop.branch [
      | in-None w ↦ rw w.result-is tt
      | in-Some w ↦ (let small = rw w.in-Some.is at (taken_in_range c.self.inside.free.items c.pop.new.self.items c.pop.result _ _ c.pop.ensures.items c.self.invariant) in rw (w.result-is, ← c.self.view_is) small)
    ]
