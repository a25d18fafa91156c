use Rattle.std.proofs.Common.{◌≡◌, ◌++◌, take, filter}
use Rattle.std.specs.String.{string_bytes}
use Rattle.explorer.specs.Lines.{lines_of, tells_kill}
use Rattle.explorer.proofs.outcome.add_kills.Given as goal

abbrev pub invariant-loop-reply : goal.invariant-loop-reply
invariant-loop-reply l = string_bytes l.text ≡ string_bytes l.initial.text ++ lines_of (filter tells_kill (take l.reply-index l.said))
