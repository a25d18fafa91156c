use Rattle.std.proofs.Common.{◌≡◌, ◌∙◌, ◌-◌, arith}
use Rattle.machine.specs.Pages.{used_frames, used_swap}
use Rattle.machine.specs.State.{free_frames}
use Rattle.charts.proofs.OpenedLemmas.{machine-alike}
use Rattle.charts.proofs.watching.machine_of.Goals as goal

pub returns : goal.returns
returns c = λ opened.
    let s = c.args.book.now.state in
    let tally = c.tally-tally.result in
    let frames = c.tally-tally.ensures.frames in
    let blocks = c.tally-tally.ensures.blocks in
    let frames-are = opened.frames in
    let swap-are = opened.swap in
    let used : c.args.sizes.frames - tally.free_frames ≡ used_frames s.pages = omega (arith, frames, frames-are) in
    let free : tally.free_frames ≡ free_frames s = omega (arith, frames) in
    let swap : c.args.sizes.swap - tally.free_blocks ≡ used_swap s.pages = omega (arith, blocks, swap-are) in
    machine-alike _ _ _ _ _ _ (c.from.ensures ∙ c.saturating_sub.ensures ∙ used) (c.from-2.ensures ∙ free) (c.from-3.ensures ∙ c.saturating_sub-2.ensures ∙ swap)
