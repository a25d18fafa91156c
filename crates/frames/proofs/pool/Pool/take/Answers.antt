use Rattle.frames.proofs.PoolLemmas.{AreFree-taken, taken_out, taken_in_range}
use Rattle.frames.proofs.pool.Pool.take.Goals as goal

pub invariant_of-self : goal.invariant_of-self
invariant_of-self c = (
  rw c.pop.ensures.capacity (AreFree-taken c.self.inside.free.items c.pop.new.self.items c.pop.result _ _ c.pop.ensures.items c.self.invariant.0),
  c.self.invariant.1,
)

pub returns-clause-out : goal.returns-clause-out
returns-clause-out c = taken_out c.self.inside.free.items c.pop.new.self.items c.pop.result _ _ c.pop.ensures.items c.self.invariant.0

pub returns-clause-in_range : goal.returns-clause-in_range
returns-clause-in_range c = rw (← c.self.view_is) (taken_in_range c.self.inside.free.items c.pop.new.self.items c.pop.result _ _ c.pop.ensures.items c.self.invariant.0)
