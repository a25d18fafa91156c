use Rattle.std.proofs.Common.{inl, inr, refl}
use Rattle.expansion.specs.ToCome.{known}
use Rattle.scenario_runs.proofs.carrying.carry_note.Goals as goal

pub returns-in_default : goal.returns-in_default
returns-in_default g c = (known c.args.expansion.now, inl (c.in_ok-note.ensures, refl))

pub returns : goal.returns
returns g c = (known c.args.expansion.now, inr (c.in-Some.command, c.carry_command.new.observer, c.in_ok-carry_command.ensures, c.in_ok-note-2.ensures))
