use Rattle.std.specs.Prelude.{◌≡◌}
use Rattle.machine.specs.Lists.{HitsThose}
use Rattle.page_state.specs.Merging.{is_below_place}
use Rattle.page_state.proofs.merging.merge_marks.Given as goal

abbrev pub invariant-loop-place : goal.invariant-loop-place
invariant-loop-place l = HitsThose l.placement (is_below_place l.word l.bits l.place) l.pages.pages l.fn.held.lists l.held.lists × (l.held ≡ record l.fn.held { lists = l.held.lists })
