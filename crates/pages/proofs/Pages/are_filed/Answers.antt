use Rattle.pages.proofs.CacheLemmas.{AreFiled-all}
use Rattle.pages.proofs.Pages.are_filed.Goals as goal

pub returns : goal.returns
returns c = rw (← c.self.view_is) (AreFiled-all c.self.inside.files c.self.inside.cache.items _ c.self.invariant.0.cached c.self.invariant.0.filed)
