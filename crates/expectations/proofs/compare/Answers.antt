use Rattle.std.proofs.Common.{◌≡◌, ◌↔◌, ◌+◌, [], length, ap, subst, rules}
use Rattle.std.proofs.lemmas.List.{nil_from_length}
use Rattle.std.specs.Str.Lines.{lines}
use Rattle.expectations.specs.Expected.{Meets}
use Rattle.expectations.specs.Steps.{IsMet}
use Rattle.expectations.proofs.compare.Goals as goal

pub returns-clause-met : goal.returns-clause-met
returns-clause-met c =
    let empty : length c.loop-rest.rest.now ≡ 0 = search rules in
    let done : lines c.loop-rest.rest.now ≡ [] = ap lines (nil_from_length c.loop-rest.rest.now empty) in
    let all = subst (λ ls. Meets c.args.script.now c.args.output.now c.args.numbers.now ↔
    IsMet (c.loop-rest.number + 1) c.loop-rest.walk.after c.loop-rest.walk.last ls c.loop-rest.walk.output.now c.loop-rest.walk.numbers.now) done c.loop-rest.invariant.0 in
    let end = c.end.ensures.met (c.loop-rest.number + 1) in
    ((λ ok. all.1 (end.0 ok)), (λ meets. end.1 (all.0 meets)))
