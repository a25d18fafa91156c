use Rattle.std.proofs.Common.{None, ap, arith, ◌∙◌}
use Rattle.std.specs.Prelude.{option_map}
use Rattle.std.proofs.lemmas.List.{get_or_read}
use Rattle.machine.specs.Slots.{at}
use Rattle.machine.specs.declared.id.PageId.{PageId}
use Rattle.pages.proofs.CacheLemmas.{cached-page}
use Rattle.pages.proofs.Pages.cached.Goals as goal

pub returns : goal.returns
returns c =
    let requires = rw (← c.self.view_is) at c.requires in
    let files = c.self.inside.files in
    let cache = c.self.inside.cache.items in
    let homes = c.self.invariant.0.homes in
    let within = c.home_place.ensures.within in
    let read = get_or_read cache c.home_place.result c.index.result.now (omega (arith, homes, within)) c.index.ensures None in
    rw (← c.self.view_is) (
    ap (option_map (λ (page : PageId). page.0)) read
    ∙ ap (λ m. option_map (λ (page : PageId). page.0) (at cache m)) c.home_place.ensures.place
    ∙ cached-page files cache _ c.self.invariant.0.cached c.args.file c.args.page requires)
