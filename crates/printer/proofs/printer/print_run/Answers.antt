use Rattle.std.proofs.Common.{rules, ◌++◌, ◌∙◌, inl, inr, ap, subst, sym}
use Rattle.std.specs.Io.KnownBytes.{Appends}
use Rattle.std.proofs.KnownBytes.{Appends-trans}
use Rattle.printer.specs.declared.options.Printing.{Printing}
use Rattle.printer.specs.Prints.{texts, shown_by, behind_answers, AppendsStart, Cut, Short}
use Rattle.printer.specs.Sinks.{asked_of, EndsAt}
use Rattle.printer.specs.SinkLaws.{starts-kept, starts-behind, out_begins-behind}
use Rattle.printer.proofs.ResultLemmas.{on_ok, ok_both, err_both, err_more, err_only}
use Rattle.printer.proofs.StartLemmas.{nothing_prints}
use Rattle.printer.proofs.StrictLemmas.{on-not_ended, ends_run}
use Rattle.printer.proofs.printer.print_run.Goals as goal

-- it was not begun
pub returns-in-Err-clause-start : goal.returns-in-Err-clause-start
returns-in-Err-clause-start g c = λ plain. nothing_prints _ _ _ _ _ c.requires plain

pub returns-clause-whole : goal.returns-clause-whole
returns-clause-whole g c =
    ok_both c.run_into-ran.result c.run_into-ran.ensures.gives c.conclude-written.ensures.whole
    (λ trace traced told. on_ok c.conclude-written.result told
    (λ more plain.
    let gives = traced.gives in
    let took = gives.takes in
    let mid = c.run_into-ran.new.sink.out.now in
    let end = c.conclude-written.new.self.out.now in
    let behind : Appends (g.O.Write.contents mid) (g.O.Write.contents end) (behind_answers c.args.options) = subst (λ (o : Printing). Appends (g.O.Write.contents mid) (g.O.Write.contents end) (behind_answers o.options)) took.2 more in
    let printed : Appends (g.O.Write.contents c.args.out.now) (g.O.Write.contents end) (texts (shown_by c.args.config.page_size.bytes c.args.options gives.answers) ++ behind_answers c.args.options) = Appends-trans _ _ _ (texts (shown_by c.args.config.page_size.bytes c.args.options gives.answers)) (behind_answers c.args.options) (took.3 plain) behind in
    let same = c.conclude-written.ensures.out ∙ took.0 in
    record { answers = gives.answers; after = _; schedules = gives.schedules; strict = took.6; prints = search (rules, printed, same) }))

pub returns-clause-short : goal.returns-clause-short
returns-clause-short g c =
    ok_both c.run_into-ran.result c.run_into-ran.ensures.gives c.conclude-written.ensures.short
    (λ trace traced more plain.
    let gives = traced.gives in
    let took = gives.takes in
    let mid = c.run_into-ran.new.sink.out.now in
    let end = c.conclude-written.new.self.out.now in
    let behind : AppendsStart (g.O.Write.contents mid) (g.O.Write.contents end) (behind_answers c.args.options) = subst (λ (o : Printing). AppendsStart (g.O.Write.contents mid) (g.O.Write.contents end) (behind_answers o.options)) took.2 more in
    let printed : AppendsStart (g.O.Write.contents c.args.out.now) (g.O.Write.contents end) (texts (shown_by c.args.config.page_size.bytes c.args.options gives.answers) ++ behind_answers c.args.options) = starts-behind _ _ _ (texts (shown_by c.args.config.page_size.bytes c.args.options gives.answers)) (behind_answers c.args.options) (took.3 plain) behind in
    let same = c.conclude-written.ensures.out ∙ took.0 in
    Short gives.answers _ gives.schedules (search (rules, printed, same)))

pub returns-clause-start : goal.returns-clause-start
returns-clause-start g c =
    err_both c.run_into-ran.result c.run_into-ran.ensures.starts c.conclude-written.ensures.kept
    (λ starts still plain.
    let cut = starts c.requires in
    let heard = cut.heard in
    let printed = out_begins-behind (asked_of c.args.options c.args.config) heard.mid.asked heard.takes.2 _ _ _ cut.answers cut.begun heard.takes.3 heard.fails.3 plain in
    let kept = starts-kept _ _ _ (texts (shown_by c.args.config.page_size.bytes c.args.options (cut.answers ++ cut.begun))) printed still in
    let same = c.conclude-written.ensures.out ∙ heard.fails.0 ∙ heard.takes.0 in
    Cut (cut.answers ++ cut.begun) _ cut.starts (search (rules, kept, same)))

-- it ended at the answer that it had begun to take
pub returns-clause-ends : goal.returns-clause-ends
returns-clause-ends g c =
    err_more c.conclude-written.result c.conclude-written.ensures.ends
    (λ why ended is_end.
    let at_end = ended is_end in
    let over = err_only c.run_into-ran.result c.run_into-ran.ensures.gives c.run_into-ran.ensures.starts c.conclude-written.ensures.kept
    (λ trace traced. on-not_ended c.run_into-ran.new.sink.stopped.now traced.gives.takes.5 at_end) in
    let cut = over.1 c.requires in
    let heard = cut.heard in
    let ends : EndsAt heard.mid.asked (g.O.Write.contents heard.mid.out.now) (g.O.Write.contents c.run_into-ran.new.sink.out.now) cut.begun =
    elim (heard.fails.5 at_end) [ inl before ↦ absurd (on-not_ended heard.mid.stopped.now heard.takes.5 before) | inr ends ↦ ends ] in
    let strict = ap (λ (o : Printing). o.options.strict) (sym heard.takes.2) ∙ ends.strict in (
      over.0,
      strict,
      λ plain.
          let run = ends_run _ _ _ c.args.options heard.mid.asked heard.takes.2 _ _ _ (g.O.Write.contents c.conclude-written.new.self.out.now) cut.answers cut.begun _ cut.starts heard.takes.3 heard.takes.6 ends over.2 plain in
          let printed = run.prints in
          let same = c.conclude-written.ensures.out ∙ heard.fails.0 ∙ heard.takes.0 in
          record { answers = run.answers; last = run.last; after = run.after; starts = run.starts; earlier = run.earlier; refused = run.refused; prints = search (rules, printed, same) },
    ))
