use Rattle.std.proofs.Common.{Option, subst}
use Rattle.std.specs.Prelude.{option_map}
use Rattle.machine.specs.Eviction.{Picks}
use Rattle.aging.specs.Groups.{seen_at}
use Rattle.eviction.specs.declared.found.Pick.{Pick}
use Rattle.held_pages.proofs.PickLemmas.{searched-picks}
use Rattle.held_pages.proofs.HeldPages.pick.Goals as goal

pub returns-clause-picked : goal.returns-clause-picked
returns-clause-picked c =
    let s = c.self.inside in
    let g = c.args.group.0 in
    rw (← c.self.view_is)
    (searched-picks s.gens c.pick.new.gens s.marks c.pick.new.marks s.hits g c.pick.ensures.only c.args.swap_free _
    (subst (λ (found : Option Pick). Picks c.args.swap_free (seen_at g s.gens s.marks) (option_map (λ (p : Pick). p.page.0) found) (seen_at g c.pick.new.gens c.pick.new.marks)) c.in-Some.is c.pick.ensures.picks))
