use Rattle.std.proofs.Common.{◌≡◌, ◌<◌, ◌∙◌, sym, ap, map, length, subst}
use Rattle.std.specs.Prelude.{slice_set}
use Rattle.std.proofs.lemmas.List.{map-set, length-map, get_or-map}
use Rattle.machine.specs.Order as order
use Rattle.machine.specs.Order.{no_cursor, cursor_at}
use Rattle.reclaim.specs.Cursors.{cursor_of}
use Rattle.reclaim.specs.Pass.{in_second, cursor_by}
use Rattle.reclaim.proofs.PassLemmas.{first-serves}
use Rattle.reclaim.proofs.cursors.Cursors.serve.Goals as goal

pub turn_after-requires-clause-live : goal.turn_after-requires-clause-live
turn_after-requires-clause-live c = (first-serves c.args.scan (in_second c.args.scan c.args.group.0) c.groups_form_a_tree.ensures _ c.args.scan.heeds_age c.args.group.0 c.requires.served).live

pub turn_after-requires-clause-under : goal.turn_after-requires-clause-under
turn_after-requires-clause-under c = (first-serves c.args.scan (in_second c.args.scan c.args.group.0) c.groups_form_a_tree.ensures _ c.args.scan.heeds_age c.args.group.0 c.requires.served).below

pub returns-clause-cursors : goal.returns-clause-cursors
returns-clause-cursors c =
    let turns = c.self.inside.turns.items in
    let target = c.args.scan.protection.target.0 in
    let asked = rw (← c.self.view_is) at c.requires.cursor in
    let there : target < length turns = subst (λ n. target < n) (length-map turns cursor_of) asked in
    let was : cursor_of c.index.result.now ≡ cursor_at (map cursor_of turns) target =
    sym (get_or-map cursor_of turns target c.index.result.now no_cursor there ∙ ap cursor_of (sym c.index.ensures)) in
    rw (← c.self.view_is)
    (map-set cursor_of turns target c.turn_after.result
    ∙ ap (λ (to : order.Cursor). slice_set (map cursor_of turns) target to) (c.turn_after.ensures ∙ ap (λ (from : order.Cursor). cursor_by c.args.scan from c.args.group.0) was))
