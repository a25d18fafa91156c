-- Without options each answer is printed as it is.
use Rattle.std.proofs.Common.{◌∙◌, ◌++◌, ℕ, List, [], ap, append-nil}
use Rattle.std.proofs.lemmas.List.{map-id}
use Rattle.std.specs.Str.Lines.{lines}
use Rattle.printer.specs.Asked.{plain}
use Rattle.printer.specs.Prints.{texts, shown_by}
use Rattle.scripts.specs.Script.{items_of}
use Rattle.subcommands.specs.Scripts.{configured}
use Rattle.streams.proofs.printed.printed.Goals as goal

pub returns-in-0-clause-answers : goal.returns-in-0-clause-answers
returns-in-0-clause-answers c =
    let run = (c.schedule.ensures.sound c.in-0.is).run in
    let size : ℕ = (configured plain (items_of (lines c.args.script.now))).page_size.bytes in
    let begins = ap (λ (bytes : List ℕ). bytes ++ (texts (shown_by size plain run.answers) ++ [])) c.new-out.ensures.items in
    (run.answers, run.after, run.schedules, run.prints ∙ begins ∙ append-nil (texts (shown_by size plain run.answers)) ∙ ap texts (map-id run.answers))
