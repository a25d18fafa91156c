use Rattle.std.proofs.Common.{◌∙◌, true, refl, sym, ap}
use Rattle.page_counter.specs.Counts.{usage_of}
use Rattle.std.specs.Prelude.{max}
use Rattle.reclaim.specs.Cursors.{cursor_of}
use Rattle.reclaim.specs.Pass.{gives_by, asked_by, in_second}
use Rattle.reclaim.proofs.PassLemmas.{served-by-all, unasked-here}
use Rattle.reclaim.proofs.TurnLemmas.{alone-unit, served-last}
use Rattle.reclaim.proofs.scan_control.ScanControl.round_unit.Goals as goal

pub returns-then-asks_all-clause-unit : goal.returns-then-asks_all-clause-unit
returns-then-asks_all-clause-unit c =
    let sc = c.args.self in
    let tree = sc.protection.tree.now in
    let target = sc.protection.target.0 in
    let second = in_second sc c.args.group.0 in
    let last = served-last _ (λ a b. refl) c.args.turn.group c.args.group (sym c.eq.ensures ∙ c.if-eq.true) in
    let serves = served-by-all sc.takes_parts tree (asked_by sc true second) (gives_by sc second) target (cursor_of c.args.turn) sc.heeds_age c.args.group.0
    (λ heeds. unasked-here sc second c.args.group.0 heeds (sym c.asks_all.ensures ∙ c.if-asks_all.true)) c.requires.served in
    c.max.ensures ∙ ap (λ n. max n 1) c.usage-size.ensures
    ∙ sym (alone-unit (gives_by sc second) (usage_of sc.protection.counters.now) c.args.group.0 tree c.groups_form_a_tree.ensures target sc.live (cursor_of c.args.turn) last sc.takes_parts c.requires.begins serves)
