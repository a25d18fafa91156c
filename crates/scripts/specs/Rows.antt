-- Rows of work, one command after the other. No public clause cites it.
use Rattle.std.specs.Prelude.{◌==◌, nat_lt, List, [], ◌∷◌, ◌++◌, if◌then◌else◌}
use Rattle.machine.specs.declared.command.Actor.{Actor}
use Rattle.machine.specs.declared.command.Command.{Command}
use Rattle.scripts.specs.Work.{number_of}

-- one command more, behind the others of its actor, who has a row or gets one
abbrev pub with_command : List (Actor × List Command) → Actor × Command → List (Actor × List Command)
with_command [] p = (p.0, p.1 ∷ []) ∷ []
with_command (row ∷ rows) p =
    if nat_lt (number_of p.0) (number_of row.0) then (p.0, p.1 ∷ []) ∷ row ∷ rows
    else if number_of p.0 == number_of row.0 then (row.0, row.1 ++ p.1 ∷ []) ∷ rows
    else row ∷ with_command rows p
