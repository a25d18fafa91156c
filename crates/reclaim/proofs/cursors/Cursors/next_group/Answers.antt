use Rattle.std.proofs.Common.{true, false, sym}
use Rattle.reclaim.specs.Cursors.{cursor_of}
use Rattle.reclaim.proofs.PassLemmas.{first-serves, first-none}
use Rattle.reclaim.proofs.cursors.Cursors.next_group.Goals as goal

pub returns-in-Some-clause-giver : goal.returns-in-Some-clause-giver
returns-in-Some-clause-giver c = first-serves c.args.scan false c.groups_form_a_tree.ensures (cursor_of c.index-turn.result.now) c.args.scan.heeds_age c.in-Some.group.0 (sym c.in-Some.ensures)

pub returns-in_err-group-clause-none : goal.returns-in_err-group-clause-none
returns-in_err-group-clause-none c = rw c.from_residual.ensures (first-none c.args.scan true c.groups_form_a_tree.ensures (cursor_of c.index-turn.result.now) c.args.scan.heeds_age (sym c.in_err-group.ensures))

pub returns-clause-spared : goal.returns-clause-spared
returns-clause-spared c = λ again. first-none c.args.scan false c.groups_form_a_tree.ensures (cursor_of c.index-turn.result.now) c.args.scan.heeds_age (sym c.in_default.ensures)

pub returns-clause-giver : goal.returns-clause-giver
returns-clause-giver c = first-serves c.args.scan true c.groups_form_a_tree.ensures (cursor_of c.index-turn.result.now) c.args.scan.heeds_age c.in_ok-group.group.0 (sym c.in_ok-group.ensures)
