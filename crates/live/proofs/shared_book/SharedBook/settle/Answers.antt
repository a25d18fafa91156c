use Rattle.std.proofs.Common.{◌≡◌, ◌+◌, ◌≤◌, List, length, ap, sym, subst, arith}
use Rattle.machine.specs.declared.entry.Entry.{Entry}
use Rattle.machine.specs.History.{Honest, Right, at_first}
use Rattle.live.specs.Logs.{EndingOf}
use Rattle.live.proofs.EndLemmas.{one-run, run-looked, run-each, run-matches, run-counted}
use Rattle.live.proofs.shared_book.SharedBook.settle.Goals as goal

pub returns-clause-right : goal.returns-clause-right
returns-clause-right g c = λ files. subst (λ (h : List Entry). Honest (at_first files) h → Right (at_first files) h) (sym c.close.ensures) (c.history_is_right.ensures.right files)

pub returns-clause-entries : goal.returns-clause-entries
returns-clause-entries g c =
    let view = c.end-ending.result.view in
    let is = c.end-ending.ensures in
    let all = c.bring_together-ended.ensures.all in
    let rolled : view.rolled ≡ 0 + c.given-count.result = ap (λ (e : EndingOf). e.view.rolled) is in
    let most : view.given ≤ length c.args.passes.items = omega (arith, all.rolled, rolled, c.given-count.ensures, c.requires.all) in
    run-counted g.L.Opened.table g.L.Opened.opening c.self.inside.book c.self.inside.log c.self.invariant.0 c.close.result.entries (sym c.close.ensures) c.args.passes.items view
    (ap (λ (e : EndingOf). e.view.log) is) (ap (λ (e : EndingOf). e.view.given) is) all most

pub returns-clause-one_run : goal.returns-clause-one_run
returns-clause-one_run g c =
    let view = c.end-ending.result.view in
    let is = c.end-ending.ensures in
    let all = c.bring_together-ended.ensures.all in
    let rolled : view.rolled ≡ 0 + c.given-count.result = ap (λ (e : EndingOf). e.view.rolled) is in
    let most : view.given ≤ length c.args.passes.items = omega (arith, all.rolled, rolled, c.given-count.ensures, c.requires.all) in
    one-run g.L.Opened.table g.L.Opened.opening c.self.inside.book c.self.inside.log c.self.invariant.0 c.close.result.entries (sym c.close.ensures) c.args.passes.items view
    (ap (λ (e : EndingOf). e.view.log) is) (ap (λ (e : EndingOf). e.view.given) is) all most

pub returns-clause-matches : goal.returns-clause-matches
returns-clause-matches g c =
    let view = c.end-ending.result.view in
    let is = c.end-ending.ensures in
    let all = c.bring_together-ended.ensures.all in
    let rolled : view.rolled ≡ 0 + c.given-count.result = ap (λ (e : EndingOf). e.view.rolled) is in
    let most : view.given ≤ length c.args.passes.items = omega (arith, all.rolled, rolled, c.given-count.ensures, c.requires.all) in
    run-matches g.L.Opened.table g.L.Opened.opening c.self.inside.book c.self.inside.log c.self.invariant.0 c.close.result.entries (sym c.close.ensures) c.args.passes.items view
    (ap (λ (e : EndingOf). e.view.log) is) (ap (λ (e : EndingOf). e.view.given) is) all most

pub returns-clause-each : goal.returns-clause-each
returns-clause-each g c =
    let view = c.end-ending.result.view in
    let is = c.end-ending.ensures in
    let all = c.bring_together-ended.ensures.all in
    let rolled : view.rolled ≡ 0 + c.given-count.result = ap (λ (e : EndingOf). e.view.rolled) is in
    let most : view.given ≤ length c.args.passes.items = omega (arith, all.rolled, rolled, c.given-count.ensures, c.requires.all) in
    run-each g.L.Opened.table g.L.Opened.opening c.self.inside.book c.self.inside.log c.self.invariant.0 c.close.result.entries (sym c.close.ensures) c.args.passes.items view
    (ap (λ (e : EndingOf). e.view.log) is) (ap (λ (e : EndingOf). e.view.given) is) all most

pub returns-clause-looked : goal.returns-clause-looked
returns-clause-looked g c =
    let view = c.end-ending.result.view in
    let is = c.end-ending.ensures in
    let all = c.bring_together-ended.ensures.all in
    let rolled : view.rolled ≡ 0 + c.given-count.result = ap (λ (e : EndingOf). e.view.rolled) is in
    let most : view.given ≤ length c.args.passes.items = omega (arith, all.rolled, rolled, c.given-count.ensures, c.requires.all) in
    run-looked g.L.Opened.table g.L.Opened.opening c.self.inside.book c.self.inside.log c.self.invariant.0 c.close.result.entries (sym c.close.ensures) c.args.passes.items view
    (ap (λ (e : EndingOf). e.view.log) is) (ap (λ (e : EndingOf). e.view.given) is) all most _ c.look_all-looks.result.items c.look_all-looks.ensures
