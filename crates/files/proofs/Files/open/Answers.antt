use Rattle.std.proofs.Common.{◌∙◌, refl, ap, arith}
use Rattle.std.specs.Prelude.{sum}
use Rattle.files.proofs.ExtentLemmas.{sum_more_le, sizes_more, lengths-push, extents_push}
use Rattle.files.proofs.Files.open.Goals as goal

pub overflow_add-end : goal.overflow_add-end
overflow_add-end c =
    let some = rw (← c.file-item.is) at (sum_more_le c.as_slice-file-items.result.now c.loop-file.file-index c.file-item.result c.loop-file-test.true) in
    let last = c.loop-file.invariant.extents.last in
    let sizes = ap sum c.loop-file.invariant.sizes in
    let fits = rw (← c.as_slice-file-items.ensures) at c.requires in
    omega (arith, some, last, sizes, fits)

pub loop-file-preserved : goal.loop-file-preserved
loop-file-preserved c =
    let files = c.as_slice-file-items.result.now in
    let some = rw (← c.file-item.is) at (sum_more_le files c.loop-file.file-index c.file-item.result c.loop-file-test.true) in
    let more = rw (← c.file-item.is) at (sizes_more files c.loop-file.file-index c.file-item.result c.loop-file-test.true) in
    let last = c.loop-file.invariant.extents.last in
    let sizes = ap sum c.loop-file.invariant.sizes in
    let fits = rw (← c.as_slice-file-items.ensures) at c.requires in
    let sized = c.loop-file.invariant.sizes in
    rw (c.in_ok-push.ensures.items) (record {
      sizes = lengths-push c.loop-file.extents.items _ ∙ rw (sized, more) refl;
      extents = extents_push _ _ _ _ c.loop-file.invariant.extents refl (omega (arith, some, last, sizes, fits));
    })
