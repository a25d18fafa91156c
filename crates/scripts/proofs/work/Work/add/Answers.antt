use Rattle.std.proofs.Common.{◌≡◌, List, refl, sym, ap, ◌∙◌, arith}
use Rattle.std.specs.Ordering.{nat_cmp}
use Rattle.std.specs.BTreeMap.{insert_entry, is_at}
use Rattle.scripts.specs.Rows.{with_command}
use Rattle.scripts.proofs.WorkLemmas.{Row}
use Rattle.scripts.proofs.RowLemmas.{Kept, shown, put_in, keyed_in, more_in, keyed_still}
use Rattle.scripts.proofs.work.Work.add.Goals as goal

pub invariant_of-self : goal.invariant_of-self
invariant_of-self c =
    let row : Kept = (c.in-Some.row.now.0, c.push.new.self) in
    let written = c.get_mut.follows.holds row in
    keyed_still (is_at (nat_cmp c.number_of-number.result)) c.self.inside.rows.entries (c.get_mut.follows.lender row).entries c.in-Some.row.now row refl (sym c.in-Some.ensures.value)
    written.0 written.1 c.self.invariant

pub invariant_of-self-in_err-push-in-Some : goal.invariant_of-self-in_err-push-in-Some
invariant_of-self-in_err-push-in-Some c =
    let row : Kept = (c.in-Some.row.now.0, c.push.new.self) in
    let written = c.get_mut.follows.holds row in
    keyed_still (is_at (nat_cmp c.number_of-number.result)) c.self.inside.rows.entries (c.get_mut.follows.lender row).entries c.in-Some.row.now row refl (sym c.in-Some.ensures.value)
    written.0 written.1 c.self.invariant

pub invariant_of-self-in_ok-insert-in-None-2 : goal.invariant_of-self-in_ok-insert-in-None-2
invariant_of-self-in_ok-insert-in-None-2 c =
    rw (c.in_ok-insert-in-None.ensures.entries, c.get_mut.follows.holds-at-none)
    (keyed_in c.self.inside.rows.entries c.number_of-number.result (c.args.actor, c.in_ok-commands-in-None.commands) c.number_of-number.ensures c.self.invariant)

pub returns-in_ok-push-in-Some : goal.returns-in_ok-push-in-Some
returns-in_ok-push-in-Some c =
    let row : Kept = (c.in-Some.row.now.0, c.push.new.self) in
    let written = c.get_mut.follows.holds row in
    ap shown written.0
    ∙ more_in c.self.inside.rows.entries c.number_of-number.result c.args.actor c.args.command c.in-Some.row.now row c.number_of-number.ensures refl c.in_ok-push-in-Some.ensures.items
    c.self.invariant c.get_mut.ensures.ordered (sym c.in-Some.ensures.value)
    ∙ ap (λ (rows : List Row). with_command rows (c.args.actor, c.args.command)) c.self.view_is

pub returns-in_ok-insert-in-None : goal.returns-in_ok-insert-in-None
returns-in_ok-insert-in-None c =
    let row : Kept = (c.args.actor, c.in_ok-commands-in-None.commands) in
    let e : shown c.insert.new.self.entries ≡ with_command c.args.self.now (c.args.actor, c.args.command) =
    ap shown (c.in_ok-insert-in-None.ensures.entries ∙ ap (λ (m : _). insert_entry nat_cmp m.entries c.number_of-number.result row) c.get_mut.follows.holds-at-none)
    ∙ put_in c.self.inside.rows.entries c.number_of-number.result row c.args.command c.number_of-number.ensures c.in_ok-commands-in-None.ensures.items c.self.invariant (sym c.in-None.ensures.value)
    ∙ ap (λ (rows : List Row). with_command rows (c.args.actor, c.args.command)) c.self.view_is in
    grind arith
