use Rattle.std.proofs.Common.{List, subst, sym}
use Rattle.std.specs.List.Sorted.{IsStrictlyIncreasing}
use Rattle.std.specs.Str.Lines.{lines}
use Rattle.machine.specs.declared.command.Actor.{Actor}
use Rattle.machine.specs.declared.command.Command.{Command}
use Rattle.scripts.specs.Script.{items_of}
use Rattle.scripts.specs.Work.{numbers_of, worked}
use Rattle.streams.proofs.other_bytes.run_text.Goals as goal

pub run_new-requires-clause-rows : goal.run_new-requires-clause-rows
run_new-requires-clause-rows g c = λ lives within.
    subst (λ (rows : List (Actor × List Command)). IsStrictlyIncreasing (numbers_of rows)) (sym c.in-Ok.ensures.work) (c.each_actor_has_its_row.ensures (worked (items_of (lines c.args.text.now)))).rising
