use Rattle.std.proofs.Common.{◌≤◌, eq-eqb, refl, sym, ◌∙◌, arith}
use Rattle.machine.specs.Pages.{page_at}
use Rattle.machine.specs.Tasks.{mappers}
use Rattle.page_state.proofs.MappedLemmas.{still-mapped}
use Rattle.machine.specs.Lists.{Youngest}
use Rattle.page_lists.proofs.HeldLemmas.{goes-still}
use Rattle.page_state.proofs.DropLemmas.{still-unsettled}
use Rattle.page_state.proofs.UnmapLemmas.{kept, dropped, settled-there, settled-rests}
use Rattle.page_state.proofs.unmap.drop_unmapped.Goals.{else-mappers-eq0-via-then-mappers-eq0+else-is_settled_memory, else-mappers-eq0-via-else-mappers-eq0}
use Rattle.page_state.proofs.unmap.drop_unmapped.Goals as goal

pub drop_page-requires-clause-there : goal.drop_page-requires-clause-there
drop_page-requires-clause-there c = settled-there (page_at c.args.parts.now.pages.pages c.args.page.0) (sym c.is_settled_memory.ensures ∙ c.if-is_settled_memory.true)

pub drop_page-requires-clause-settled : goal.drop_page-requires-clause-settled
drop_page-requires-clause-settled c = settled-rests (page_at c.args.parts.now.pages.pages c.args.page.0) (sym c.is_settled_memory.ensures ∙ c.if-is_settled_memory.true)

pub returns-then-is_settled_memory-clause-drops : goal.returns-then-is_settled_memory-clause-drops
returns-then-is_settled_memory-clause-drops c =
    let p = c.args.page.0 in
    let none = sym c.mappers.ensures ∙ c.if-mappers-eq0.true in
    dropped c.args.parts.now c.drop_page.new.self c.args.spaces.now.page_tables p c.drop_page.ensures.drops (sym c.is_settled_memory.ensures ∙ c.if-is_settled_memory.true) (eq-eqb (mappers c.args.spaces.now.page_tables p) 0 none)

pub returns-else-mappers-eq0-clause-drops : goal.returns-else-mappers-eq0-clause-drops
returns-else-mappers-eq0-clause-drops c =
    let old = c.args.parts.now in
    let tables = c.args.spaces.now.page_tables in
    let p = c.args.page.0 in
    let same = c.mappers.ensures in
    kept old tables p (goes-still Youngest old.pages.pages old.pages.pages old.held.lists c.requires.held refl)
    (elim c.else-mappers-eq0.branch [
      | else-mappers-eq0-via-then-mappers-eq0+else-is_settled_memory w ↦ still-unsettled tables p (page_at old.pages.pages p) (sym w.is_settled_memory.ensures ∙ w.if-is_settled_memory.false)
      | else-mappers-eq0-via-else-mappers-eq0 w ↦ (let some = w.if-mappers-eq0.false in let mapped : 1 ≤ mappers tables p = omega (arith, some, same) in still-mapped tables p (page_at old.pages.pages p) mapped)
    ])
