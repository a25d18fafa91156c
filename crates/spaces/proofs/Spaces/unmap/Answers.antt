use Rattle.std.proofs.Common.{sym, arith}
use Rattle.spaces.proofs.PlaceLemmas.{shown-within, shown-counted, AreSpaces-unmapped}
use Rattle.spaces.proofs.Spaces.unmap.Goals as goal

pub index_mut-requires-2 : goal.index_mut-requires-2
index_mut-requires-2 c =
    let shown = rw (← c.self.view_is) at c.in_ok-page.ensures in
    let within = shown-within _ _ _ _ _ c.self.invariant _ _ c.in_ok-page.page.0 (sym shown) in
    omega (arith, within)

pub overflow_sub-index_mut : goal.overflow_sub-index_mut
overflow_sub-index_mut c =
    let shown = rw (← c.self.view_is) at c.in_ok-page.ensures in
    shown-counted _ _ _ _ _ c.self.invariant _ _ c.in_ok-page.page.0 _ (sym shown) c.index_mut-2.ensures.value

pub invariant_of-self : goal.invariant_of-self
invariant_of-self c =
    let shown = rw (← c.self.view_is) at c.in_ok-page.ensures in
    AreSpaces-unmapped _ _ _ _ _ c.self.invariant _ _ _ _ _ c.in_ok-page.page c.index_mut.ensures.value c.index_mut-2.ensures.value (sym shown) c.unmap.ensures
