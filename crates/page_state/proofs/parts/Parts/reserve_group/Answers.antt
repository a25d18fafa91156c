use Rattle.std.proofs.Common.{◌≡◌, ℕ, length, refl, sym, ap, subst, ◌∙◌}
use Rattle.page_counter.specs.Counts.{Counts}
use Rattle.pages.specs.PagesOf.{PagesOf}
use Rattle.held_pages.specs.Held.{HeldOf}
use Rattle.page_state.specs.declared.parts.Parts.{Parts}
use Rattle.page_state.specs.Owned.{PartsAgree}
use Rattle.page_state.proofs.CountLemmas.{counted-same}
use Rattle.page_state.proofs.PartsLemmas.{agree-counted}
use Rattle.page_state.proofs.parts.Parts.reserve_group.Goals as goal

-- there may be room for more groups, and all else is as it was
roomier : (h : Parts) (d : Counts) (held room : ℕ) → d.tree ≡ h.counters.tree → d.usage ≡ h.counters.usage → PartsAgree h
    → PartsAgree (record h { counters = d; held = record (h.held) { room = held }; pages = record (h.pages) { room = room } })
roomier h d held room tree usage is =
    agree-counted h d (record (h.held) { room = held }) h.pages.groups room (counted-same h.counters d h.pages.pages tree usage is.kept.counted) is.held (is.held_groups ∙ sym (ap length tree)) (is.page_groups ∙ sym (ap length tree)) refl is

pub returns-in_err-reserve-clause-agree : goal.returns-in_err-reserve-clause-agree
returns-in_err-reserve-clause-agree c = let h = c.args.self.now in roomier h c.reserve.new.self h.held.room h.pages.room c.reserve.ensures.tree c.reserve.ensures.usage c.requires

pub returns-in_err-reserve_group-clause-agree : goal.returns-in_err-reserve_group-clause-agree
returns-in_err-reserve_group-clause-agree c =
    let h = c.args.self.now in
    subst (λ (held : HeldOf). PartsAgree (record h { counters = c.reserve.new.self; held = held })) (sym c.reserve_group.ensures.same)
    (roomier h c.reserve.new.self c.reserve_group.new.self.room h.pages.room c.reserve.ensures.tree c.reserve.ensures.usage c.requires)

pub returns-clause-agree : goal.returns-clause-agree
returns-clause-agree c =
    let h = c.args.self.now in
    subst (λ (pages : PagesOf). PartsAgree (record h { counters = c.reserve.new.self; held = c.reserve_group.new.self; pages = pages })) (sym c.reserve_group-2.ensures.same)
    (subst (λ (held : HeldOf). PartsAgree (record h { counters = c.reserve.new.self; held = held; pages = record (h.pages) { room = c.reserve_group-2.new.self.room } })) (sym c.reserve_group.ensures.same)
    (roomier h c.reserve.new.self c.reserve_group.new.self.room c.reserve_group-2.new.self.room c.reserve.ensures.tree c.reserve.ensures.usage c.requires))
