use Rattle.std.proofs.Common.{◌≡◌, ◌<◌, ◌∙◌, ℕ, Option, None, Some, true, sym, subst}
use Rattle.std.specs.Prelude.{IfSome}
use Rattle.machine.specs.Tree.{is_live}
use Rattle.machine.specs.Pages.{Page, page_at, has_frame, has_this_frame}
use Rattle.files.specs.Files.{FilesOf}
use Rattle.pages.specs.PagesOf.{AreFiled}
use Rattle.page_state.proofs.BalanceLemmas.{taken-within}
use Rattle.page_state.proofs.JoinLemmas.{files-opened}
use Rattle.page_state.proofs.joined.State.is_joined.Goals as goal

pub returns-clause-groups : goal.returns-clause-groups
returns-clause-groups c = rw (← c.self.view_is) (λ p. by_slot (page_at c.self.inside.parts.pages.pages p) (c.self.invariant.agree.kept.counted.live p))
  where
    by_slot : (slot : Option Page) → IfSome slot (λ page. is_live c.self.inside.parts.counters.tree page.group ≡ true) → IfSome slot (λ page. is_live c.self.inside.tree page.group ≡ true)
    by_slot None live = tt
    by_slot (Some page) live = sym (c.self.invariant.held_kin.living page.group) ∙ live

pub returns-clause-filed : goal.returns-clause-filed
returns-clause-filed c = rw (← c.self.view_is) (subst (λ (files : FilesOf). AreFiled files c.self.inside.parts.pages.pages) (files-opened c.self.inside c.self.invariant) c.are_filed.ensures)

pub returns-clause-listed : goal.returns-clause-listed
returns-clause-listed c = rw (← c.self.view_is) c.self.invariant.agree.held

pub returns-clause-lists : goal.returns-clause-lists
returns-clause-lists c = rw (← c.self.view_is) (c.self.invariant.agree.held_groups ∙ c.self.invariant.held_kin.len)

pub returns-clause-framed : goal.returns-clause-framed
returns-clause-framed c =
    let h = c.self.inside.parts in
    rw (← c.self.view_is) (λ f taken. subst (λ (n : ℕ). f < n) c.self.invariant.frames (taken-within has_this_frame has_frame h.pool.frames h.pool.free h.pages.pages f c.self.invariant.agree.kept.frames taken))
