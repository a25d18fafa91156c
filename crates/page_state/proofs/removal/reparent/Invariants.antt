use Rattle.machine.specs.Slots.{count_there}
use Rattle.std.specs.Prelude.{◌==◌}
use Rattle.page_state.proofs.RemovalLemmas.{HandsSome}
use Rattle.page_state.proofs.removal.reparent.Given as goal

abbrev pub invariant-loop-page : goal.invariant-loop-page
invariant-loop-page l = HandsSome l.placement l.group.0 l.parent.0 l.fn.counters l.counters l.fn.pages l.pages

abbrev pub decreases-loop-page : goal.decreases-loop-page
decreases-loop-page l = count_there (λ page. page.group == l.group.0) l.pages.pages
