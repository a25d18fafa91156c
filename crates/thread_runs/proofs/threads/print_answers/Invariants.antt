use Rattle.std.proofs.Common.{take}
use Rattle.std.specs.Io.KnownBytes.{Appends}
use Rattle.printer.specs.Prints.{texts}
use Rattle.thread_runs.proofs.threads.print_answers.Given as goal

abbrev pub invariant-loop-reply : goal.invariant-loop-reply
invariant-loop-reply g l = Appends (g.O.Write.contents l.fn.out) (g.O.Write.contents l.out) (texts (take l.reply-index l.answers))
