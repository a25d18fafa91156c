use Rattle.std.proofs.Common.{◌∙◌, refl, ap}
use Rattle.held_pages.specs.Held.{HeldOf}
use Rattle.page_state.proofs.MergeLemmas.{merges-none, merges-more, merges-rest}
use Rattle.page_state.proofs.merging.merge_marks.Goals as goal

pub loop-place-init : goal.loop-place-init
loop-place-init c = (merges-none c.args.placement c.args.word c.args.bits c.args.pages.now.pages c.args.held.now.lists c.ranges.bits.fits, refl)

pub returns-then-bits-place-eq0-clause-merged : goal.returns-then-bits-place-eq0-clause-merged
returns-then-bits-place-eq0-clause-merged c =
    merges-rest c.args.placement c.args.word c.args.bits c.args.pages.now.pages c.loop-place.place c.args.held.now.lists c.loop-place.held.lists c.if-bits-place-eq0.true c.loop-place.invariant.0

pub loop-place-preserved : goal.loop-place-preserved
loop-place-preserved c =
    (merges-more c.args.placement c.args.word c.args.bits c.args.pages.now.pages c.loop-place.place c.args.held.now.lists c.loop-place.held.lists c.merge_mark.new.held.lists c.loop-place.invariant.0 c.merge_mark.ensures.merged, c.merge_mark.ensures.others ∙ ap (λ (h : HeldOf). let k : HeldOf = record h { lists = c.merge_mark.new.held.lists } in k) c.loop-place.invariant.1)
