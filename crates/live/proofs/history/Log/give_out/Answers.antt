use Rattle.std.proofs.Common.{rules, ap, ◌∙◌}
use Rattle.live.specs.declared.history.View.{View}
use Rattle.live.specs.Rules.{joined}
use Rattle.live.proofs.RuleLemmas.{joins, splits_rows, splits_roll, give_allowed, with_roll}
use Rattle.live.proofs.history.Log.give_out.Goals as goal

pub split_seat-mine-requires : goal.split_seat-mine-requires
split_seat-mine-requires c = (search rules, search rules, splits_roll _ _)

pub join_seat-requires : goal.join_seat-requires
join_seat-requires c = (search rules, search rules, search rules, search rules, joins _ _ _ _ (ap (λ m. m.0.books) c.self.invariant.2))

pub load-requires : goal.load-requires
load-requires c =
    let seat = c.self.inside.seat.me.0 in
    let mine = c.split_seat-mine.ensures in
    let all = with_roll seat c.args.roll.now.me.0 c.join_seat.new.seat.me.0 seat.given c.args.count seat.log (ap (λ m. m.0) c.self.invariant.2) (ap (λ m. m.0) c.requires.roll)
    (ap (λ m. m.0) c.join_seat.ensures.2 ∙ ap (λ (x : View). joined seat x) (ap (λ m. m.0) mine.4)) in
    (search rules, search rules, give_allowed _ _ _ (ap (λ (x : View). x.books) all) (ap (λ (x : View). x.rolls) all))

pub split_seat-front-requires : goal.split_seat-front-requires
split_seat-front-requires c = (search rules, search rules, splits_rows _ _)

pub split_seat-requires : goal.split_seat-requires
split_seat-requires c = (search rules, search rules, splits_roll _ _)
