use Rattle.std.proofs.Common.{true, sym, ◌∙◌}
use Rattle.reclaim.specs.Cursors.{cursor_of}
use Rattle.reclaim.specs.Pass.{gives_by, asked_by}
use Rattle.reclaim.proofs.PassLemmas.{one_pass, pass_in_front, pass_behind}
use Rattle.reclaim.proofs.scan_control.ScanControl.served.Goals as goal

pub returns-then-not-self : goal.returns-then-not-self
returns-then-not-self c =
    one_pass c.args.self.takes_parts c.args.self.protection.tree.now (asked_by c.args.self true c.args.low_reclaim) (gives_by c.args.self c.args.low_reclaim) c.args.self.protection.target.0 (cursor_of c.args.turn)
    c.args.self.heeds_age c.first_asked.result c.if-not-self.true c.first_asked.ensures

pub returns-then-is_some : goal.returns-then-is_some
returns-then-is_some c =
    pass_in_front c.args.self.takes_parts c.args.self.protection.tree.now (asked_by c.args.self true c.args.low_reclaim) (gives_by c.args.self c.args.low_reclaim) c.args.self.protection.target.0 (cursor_of c.args.turn)
    c.args.self.heeds_age c.first_asked-found.result c.if-not-self.false c.first_asked-found.ensures (sym c.is_some.ensures ∙ c.if-is_some.true)

pub returns : goal.returns
returns c =
    pass_behind c.args.self.takes_parts c.args.self.protection.tree.now (asked_by c.args.self true c.args.low_reclaim) (gives_by c.args.self c.args.low_reclaim) c.args.self.protection.target.0 (cursor_of c.args.turn)
    c.args.self.heeds_age c.first_asked-found.result c.first_asked-2.result c.if-not-self.false c.first_asked-found.ensures (sym c.is_some.ensures ∙ c.if-is_some.false) c.first_asked-2.ensures
