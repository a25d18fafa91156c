use Rattle.std.proofs.Common.{◌<◌, List, Option, Some, length, sym, ap, subst, ◌∙◌, slice_set}
use Rattle.machine.specs.declared.id.PageId.{PageId}
use Rattle.spaces.proofs.TableLemmas.{all_mapped}
use Rattle.spaces.proofs.page_table.PageTable.map.Goals as goal

pub returns : goal.returns
returns c =
    let t = c.self.inside in
    let within = subst (λ (view : List (Option PageId)). c.args.place < length view) (sym c.self.view_is) c.requires.within in
    all_mapped t.places.items c.extend.new.places.items t.pages c.args.place (Some c.args.page) c.self.invariant.0 within c.extend.ensures.items
    ∙ ap (λ (view : List (Option PageId)). slice_set view c.args.place (Some c.args.page)) c.self.view_is
