use Rattle.std.proofs.Common.{◌≡◌, true, Option, Some, None, refl}
use Rattle.std.specs.Prelude.{is_some}
use Rattle.machine.specs.Pages.{Page}
use Rattle.legal.proofs.ShownLemmas.{shows_pages-legal}
use Rattle.laws.proofs.mappings_show_pages.Goals as goal

there : (slot : Option Page) → is_some slot ≡ true → (page : Page) × (slot ≡ Some page)
there None e = cc
there (Some page) e = (page, refl)

pub returns : goal.returns
returns c opening history s legal t v p mapped =
    let shows = shows_pages-legal opening history s legal in
    let found = there _ (shows.there t v p mapped) in
    (found.0, found.1, shows.memory t v p found.0 mapped found.1)
