use Rattle.std.proofs.Common.{◌≡◌, ◌<◌, ℕ, None, Some, arith}
use Rattle.std.specs.Prelude.{nat_le, if◌then◌else◌}
use Rattle.std.proofs.lemmas.Bool.Decides.{nat_tests}
use Rattle.files.proofs.ExtentLemmas.{sum_more, sum_more_le}
use Rattle.files.proofs.config.blocks_behind.Goals as goal

too_many : (n most : ℕ) → most < n → None ≡ (if nat_le n most then Some n else None)
too_many n most lt = grind (arith, nat_tests)

pub returns-then-file-all : goal.returns-then-file-all
returns-then-file-all c =
    let some = rw (← c.file-item.is) at (sum_more_le c.args.files.now c.loop-file.file-index c.file-item.result c.loop-file-test.true) in
    let so_far = c.loop-file.invariant.so_far in
    let within = c.loop-file.invariant.within in
    let more = c.if-file-all.true in
    too_many _ _ (omega (arith, some, so_far, within, more))

pub loop-file-preserved : goal.loop-file-preserved
loop-file-preserved c =
    let more = rw (← c.file-item.is) at (sum_more c.args.files.now c.loop-file.file-index c.file-item.result c.loop-file-test.true) in
    let so_far = c.loop-file.invariant.so_far in
    let within = c.loop-file.invariant.within in
    let fits = c.if-file-all.false in
    record { so_far = omega (arith, so_far, more); within = omega (arith, within, fits) }
