use Rattle.std.proofs.Common.{◌≡◌, ◌==◌, Some, cond, ap, sym, ◌∙◌}
use Rattle.std.specs.Prelude.{slice_index}
use Rattle.machine.specs.Slots.{at}
use Rattle.pages.specs.PagesOf.{byte_of, byte_in}
use Rattle.pages.specs.Records.{bytes_of}
use Rattle.pages.proofs.TableLemmas.{at-map}
use Rattle.pages.proofs.Pages.copy.Goals as goal

pub returns-clause-bytes : goal.returns-clause-bytes
returns-clause-bytes c = λ q o.
    let from = c.args.from.0 in
    let before = c.args.self.now.bytes in
    let copied : at before from ≡ Some c.bytes_at.result.now = rw (← c.self.view_is) (at-map bytes_of c.self.inside.owned.items from ∙ rw c.deref.ensures.value at c.bytes_at.ensures) in
    let read : slice_index c.bytes_at.result.now o ≡ byte_in before from o = sym (ap (λ bytes. byte_of bytes o) copied) in
    c.insert.ensures.bytes q o ∙ ap (λ b. cond (q == c.insert.result.0) b (byte_in before q o)) (c.set_bytes_but.ensures.bytes o ∙ ap (cond (c.args.offset == o) c.args.byte) read)
