use Rattle.std.proofs.Common.{rules, ◌≡◌, ◌∙◌, ap, arith}
use Rattle.live.specs.declared.history.View.{View}
use Rattle.live.specs.Rules.{joined}
use Rattle.live.proofs.RuleLemmas.{joins, learn_allowed}
use Rattle.live.proofs.history.Ending.take.Goals as goal

pub join_seat-requires : goal.join_seat-requires
join_seat-requires c = (search rules, search rules, search rules, search rules, joins _ _ _ _ c.self.invariant.3)

pub load-requires : goal.load-requires
load-requires c =
    let seat = c.self.inside.seat.me.0 in
    let other = c.args.front.me.0 in
    let all : c.join_seat.new.seat.me.0 ≡ joined seat other = ap (λ m. m.0) c.join_seat.ensures.2 in
    let books = ap (λ (x : View). x.books) all in
    let rolls = ap (λ (x : View). x.rolls) all in
    let roll : seat.rolls ≡ 1 = search rules in
    (search rules, search rules, learn_allowed _ _ _ (omega (arith, books, c.self.invariant.3, c.requires.one.0)) (omega (arith, rolls, roll, c.requires.one.1)))
