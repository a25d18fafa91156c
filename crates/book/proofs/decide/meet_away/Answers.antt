use Rattle.std.proofs.Common.{◌∙◌, sym, ap}
use Rattle.std.specs.Prelude.{option_map}
use Rattle.machine.specs.declared.config.Placement.{Placement}
use Rattle.machine.specs.declared.id.GroupId.{GroupId}
use Rattle.machine.specs.Pages.{Page}
use Rattle.machine.specs.Access.{charged_from_swap}
use Rattle.page_state.specs.Changes.{files_of}
use Rattle.book.proofs.JudgeLemmas.{meets-away}
use Rattle.book.proofs.decide.meet_away.Goals as goal

pub unreachable-requires : goal.unreachable-requires
unreachable-requires c =
    let s = c.args.state.now.tables in
    let told = rw c.pages.ensures.pages at c.group.ensures.group in
    let there = ap (option_map (λ (page : Page). page.group)) c.requires.1.stands in
    let none = ap (option_map (λ (g : GroupId). g.0)) c.in_default.is in
    cc

pub returns : goal.returns
returns c =
    let s = c.args.state.now.tables in
    let told = rw c.pages.ensures.pages at c.group.ensures.group in
    meets-away (files_of s.opening) s c.args.fault c.args.page.0 c.requires.0 c.in-Some.group c.charged_from_swap-charged.result c.is_joined.ensures.filed c.requires.1 (sym told ∙ ap (option_map (λ (g : GroupId). g.0)) c.in-Some.is)
    (c.charged_from_swap-charged.ensures ∙ ap (λ (placement : Placement). charged_from_swap placement c.in-Some.group.0 c.args.fault.group.0) c.placement.ensures)
