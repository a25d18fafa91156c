use Rattle.std.proofs.Common.{ap, sym, ◌∙◌}
use Rattle.std.specs.Prelude.{option_map}
use Rattle.machine.specs.declared.id.PageId.{PageId}
use Rattle.pages.proofs.MemberLemmas.{first-some, first-none}
use Rattle.pages.proofs.Pages.first_of.Goals as goal

pub returns-clause-some : goal.returns-clause-some
returns-clause-some c = rw (← c.self.view_is) (first-some c.self.inside.members.lists _ c.self.invariant.0.listed c.args.group.0 c.front.result c.front.ensures)

pub returns-clause-none : goal.returns-clause-none
returns-clause-none c = λ none p label r stands.
    first-none c.self.inside.members.lists _ c.self.invariant.0.listed c.args.group.0 (sym c.front.ensures ∙ ap (option_map (λ (q : PageId). q.0)) none) p label r (rw (← c.self.view_is) at stands)
