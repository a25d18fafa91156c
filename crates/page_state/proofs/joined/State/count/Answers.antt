use Rattle.std.proofs.Common.{◌<◌, ◌≤◌, ◌+◌, ◌∙◌, ℕ, List, sym, ap, subst, arith}
use Rattle.machine.specs.declared.record.EventCounts.{EventCounts}
use Rattle.machine.specs.Counts.{total}
use Rattle.page_state.proofs.KinLemmas.{kin-total}
use Rattle.page_state.proofs.EventLemmas.{total-most}
use Rattle.page_state.proofs.joined.State.count.Goals as goal

pub count-requires-clause-room : goal.count-requires-clause-room
count-requires-clause-room c =
    let s = c.self.inside in
    let requires = rw (← c.self.view_is) at c.requires in
    subst (λ (n : ℕ). n < 18446744073709551615) (sym (kin-total s.events.tree s.tree c.self.invariant.counted_kin s.events.counted 0 c.args.key)) requires.few

pub returns-clause-most : goal.returns-clause-most
returns-clause-most c =
    let s = c.self.inside in
    let requires = rw (← c.self.view_is) at c.requires in
    rw (← c.self.view_is)
    (λ n most k.
    let le = total-most s.tree s.events.counted c.args.group.0 c.args.key requires.live (c.are_counted.ensures.counted ∙ c.self.invariant.counted_kin.len) 0 k in
    let before = most k in
    let same = ap (λ (cs : List EventCounts). total s.tree cs 0 k) c.count.ensures.counted in
    omega (arith, le, before, same))
