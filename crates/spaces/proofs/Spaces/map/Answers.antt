use Rattle.std.proofs.Common.{arith}
use Rattle.spaces.proofs.PlaceLemmas.{place-within, count-fits, Shows-mapped, AreSpaces-mapped}
use Rattle.spaces.proofs.Spaces.map.Goals as goal

pub overflow_add-index_mut : goal.overflow_add-index_mut
overflow_add-index_mut c =
    let requires = rw (← c.self.view_is) at c.requires in
    let fits = count-fits _ _ _ _ _ c.self.invariant c.args.page.0 _ requires.number c.index_mut-2.ensures.value in
    omega (arith, fits)

pub invariant_of-self : goal.invariant_of-self
invariant_of-self c =
    let requires = rw (← c.self.view_is) at c.requires in
    let place = place-within _ _ _ _ _ c.self.invariant _ _ requires.alive requires.within in
    AreSpaces-mapped _ _ _ _ _ c.self.invariant _ _ _ _ _ c.args.page c.index_mut.ensures.value c.index_mut-2.ensures.value place requires.unmapped requires.number c.map.ensures

pub returns-clause-shown : goal.returns-clause-shown
returns-clause-shown c =
    let requires = rw (← c.self.view_is) at c.requires in
    let place = place-within _ _ _ _ _ c.self.invariant _ _ requires.alive requires.within in
    rw (← c.self.view_is) (Shows-mapped _ _ _ _ _ c.self.invariant _ _ _ _ _ c.args.page c.index_mut.ensures.value c.index_mut-2.ensures.value place c.map.ensures)
