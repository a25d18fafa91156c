use Rattle.std.proofs.Common.{List, IfOk, ap, subst, sym}
use Rattle.std.specs.List.Sorted.{IsStrictlyIncreasing}
use Rattle.std.specs.Str.Lines.{lines}
use Rattle.machine.specs.declared.command.Actor.{Actor}
use Rattle.machine.specs.declared.command.Command.{Command}
use Rattle.machine.specs.declared.config.Config.{Config}
use Rattle.scripts.specs.Script.{items_of}
use Rattle.scripts.specs.Work.{numbers_of, worked}
use Rattle.shown_groups.specs.declared.shown.Shows.{Shows}
use Rattle.shown_groups.specs.declared.shown.Shows.TheVariants.{These}
use Rattle.shown_groups.specs.Shown.{shown_text}
use Rattle.thread_runs.specs.Threads.{PrintsScriptShowing}
use Rattle.thread_runs.proofs.EndLemmas.{script_showing}
use Rattle.thread_runs.proofs.threads.run_script_showing.Goals as goal

pub run_new-requires-clause-rows : goal.run_new-requires-clause-rows
run_new-requires-clause-rows g c = λ lives within.
    subst (λ (rows : List (Actor × List Command)). IsStrictlyIncreasing (numbers_of rows)) (sym c.in-Ok.ensures.work) (c.each_actor_has_its_row.ensures (worked (items_of (lines c.args.script.now)))).rising

pub show_all-requires-clause-rows : goal.show_all-requires-clause-rows
show_all-requires-clause-rows g c = λ lives within.
    subst (λ (rows : List (Actor × List Command)). IsStrictlyIncreasing (numbers_of rows)) (sym c.in-Ok.ensures.work) (c.each_actor_has_its_row.ensures (worked (items_of (lines c.args.script.now)))).rising

pub returns-in-These-clause-whole : goal.returns-in-These-clause-whole
returns-in-These-clause-whole g c =
    subst (λ (what : Shows). IfOk c.run_new.result (λ verdict. PrintsScriptShowing c.args.options.placement c.args.script.now (shown_text what c.args.script.now) verdict (g.O.Write.contents c.args.out.now) (g.O.Write.contents c.run_new.new.out)))
    (sym c.in-These.is)
    (script_showing c.args.options.placement c.args.script.now (shown_text (These c.in-These.paths) c.args.script.now) _ _ _ c.run_new.result _ _ c.in-Ok.ensures.faultless
    (ap (λ (config : Config). record config { placement = c.args.options.placement }) c.in-Ok.ensures.config) c.in-Ok.ensures.setup c.in-Ok.ensures.work c.run_new.ensures.whole)
