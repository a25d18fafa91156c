use Rattle.std.proofs.Common.{◌∙◌, Option, ap}
use Rattle.std.specs.Prelude.{option_map}
use Rattle.machine.specs.Slots.{there_and}
use Rattle.pages.specs.declared.owned_page.OwnedPage.{OwnedPage}
use Rattle.pages.specs.PagesOf.{is_held_frame}
use Rattle.pages.specs.Records.{label_holding, group_at, page_of}
use Rattle.pages.proofs.table.is_in_frame.Goals as goal

pub returns-in-Some : goal.returns-in-Some
returns-in-Some c =
    let owned = c.in-Some.owned.now in
    c.is_frame.ensures (label_holding owned.content (group_at owned.place)) ∙ ap (λ (slot : Option OwnedPage). there_and (is_held_frame c.args.number) (option_map page_of slot)) c.in-Some.ensures
