use Rattle.std.proofs.Common.{ap, ◌∙◌, ◌≡◌, length, arith}
use Rattle.marks.specs.Logs.{SeatOf}
use Rattle.marks.proofs.SeatLemmas.{last}
use Rattle.marks.proofs.marks.Marks.end.Goals as goal

pub invariant_of-result : goal.invariant_of-result
invariant_of-result c = (c.close_with.ensures.values.0, c.close_with.ensures.counts.1 ∙ c.self.invariant.no_slots)

pub returns-clause-law : goal.returns-clause-law
returns-clause-law c =
    let f = c.close_with.ensures.values.2 in
    rw (← c.all.view_is) (last _ _ _ _ (ap (λ (s : SeatOf). s.log.parts) c.all.view_is ∙ c.requires.parts) f.0 f.1.0 f.1.1 f.2)

pub returns-clause-size : goal.returns-clause-size
returns-clause-size c =
    let f = c.close_with.ensures.values.2 in
    let wide : length f.0.words ≡ c.self.inside.table.shared.key = f.1.0.words in
    let is = ap length f.2 in
    let sized = c.self.invariant in
    rw (← c.self.view_is) (omega (arith, wide, is, sized.each, sized.known))
