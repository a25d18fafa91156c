use Rattle.std.proofs.Common.{List, Option, None, IsSome, sym, ap, subst, ◌∙◌, slice_set}
use Rattle.machine.specs.declared.id.PageId.{PageId}
use Rattle.machine.specs.Slots.{at}
use Rattle.spaces.proofs.TableLemmas.{all_set, written}
use Rattle.spaces.proofs.page_table.PageTable.unmap.Goals as goal

pub returns : goal.returns
returns c =
    let t = c.self.inside in
    let maps = subst (λ (view : List (Option PageId)). IsSome (at view c.args.place)) (sym c.self.view_is) c.requires in
    all_set t.places.items t.pages c.args.place None (written t.places.items t.pages c.args.place maps) ∙ ap (λ (view : List (Option PageId)). slice_set view c.args.place None) c.self.view_is
