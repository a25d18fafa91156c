use Rattle.std.proofs.Common.{◌∙◌, sym, subst}
use Rattle.machine.specs.Pages.{Residence, page_at}
use Rattle.pages.specs.PagesOf.{HasResidence}
use Rattle.book.proofs.JudgeLemmas.{residence-none, residence-some, is-held, is-away, found-there}
use Rattle.book.proofs.decide.meet_page.Goals as goal

pub unreachable-requires : goal.unreachable-requires
unreachable-requires c =
    let s = c.args.state.now.tables in
    residence-none (page_at s.pages c.args.page.0) (found-there s c.args.fault.task.0 c.args.page.0 c.args.fault.place c.is_joined.ensures.mapped c.requires)
    (sym (rw c.pages.ensures.pages at c.residence.ensures.residence) ∙ c.in_default.is)

pub meet_held-requires : goal.meet_held-requires
meet_held-requires c =
    let s = c.args.state.now.tables in
    let so = residence-some s.pages c.args.page.0 c.in-Some.residence (sym c.in-Some.is ∙ rw c.pages.ensures.pages at c.residence.ensures.residence) in
    record { label = so.0; found = c.requires; stands = subst (λ (r : Residence). HasResidence s.pages c.args.page.0 so.0 r) (is-held so.1 c.in-Held.frame (so.3 ∙ c.in-Held.is)) so.2 }

pub meet_away-requires : goal.meet_away-requires
meet_away-requires c =
    let s = c.args.state.now.tables in
    let so = residence-some s.pages c.args.page.0 c.in-Some.residence (sym c.in-Some.is ∙ rw c.pages.ensures.pages at c.residence.ensures.residence) in (
      c.in-Away.field-0,
      record { label = so.0; found = c.requires; stands = subst (λ (r : Residence). HasResidence s.pages c.args.page.0 so.0 r) (is-away so.1 c.in-Away.field-0 (so.3 ∙ c.in-Away.is)) so.2 },
    )
