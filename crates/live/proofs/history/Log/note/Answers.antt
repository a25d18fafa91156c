use Rattle.std.proofs.Common.{rules, ap, ◌∙◌}
use Rattle.live.specs.declared.history.View.{View}
use Rattle.live.specs.Rules.{joined, exchanges_in}
use Rattle.live.proofs.RuleLemmas.{joins, splits_rows, note_allowed, with_worker}
use Rattle.live.proofs.history.Log.note.Goals as goal

pub split_seat-mine-requires : goal.split_seat-mine-requires
split_seat-mine-requires g c = (search rules, search rules, splits_rows _ _)

pub join_seat-requires : goal.join_seat-requires
join_seat-requires g c = (search rules, search rules, search rules, search rules, joins _ _ _ _ (ap (λ m. m.0.books) c.self.invariant.2))

pub compare_exchange_with-requires : goal.compare_exchange_with-requires
compare_exchange_with-requires g c =
    let seat = c.self.inside.seat.me.0 in
    let mine = c.split_seat-mine.ensures in
    let old = exchanges_in c.args.front.now.me.0.rows in
    let all = with_worker seat c.args.front.now.me.0 c.join_seat.new.seat.me.0 seat.given c.args.pass.now.caller.worker seat.log old (ap (λ m. m.0) c.self.invariant.2) (ap (λ m. m.0) c.requires.of_worker)
    (ap (λ m. m.0) c.join_seat.ensures.2 ∙ ap (λ (x : View). joined seat x) (ap (λ m. m.0) mine.4)) in
    (search rules, search rules, note_allowed _ _ _ g.A.Asked.events c.args.pass.now old (ap (λ (x : View). x.books) all) (ap (λ (x : View). x.rows) all))

pub split_seat-requires : goal.split_seat-requires
split_seat-requires g c = (search rules, search rules, splits_rows _ _)
