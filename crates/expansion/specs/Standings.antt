-- What entries do to the marks and places of tasks.
use Rattle.std.specs.Prelude.{ℕ, zero, suc, ◌+◌, ◌-◌, ◌==◌, List, min, nat_lt, Option, Some, None, if◌then◌else◌}
use Rattle.machine.specs.declared.command.Actor.{Actor}
use Rattle.machine.specs.declared.command.Actor.TheVariants as actor
use Rattle.machine.specs.declared.command.Command.{Command}
use Rattle.machine.specs.declared.command.Command.TheVariants as command
use Rattle.scenario_lines.specs.declared.access.Act.{Act}
use Rattle.scenario_lines.specs.declared.access.Act.TheVariants as act
use Rattle.scenario_lines.specs.declared.burst.Deed.{Deed}
use Rattle.scenario_lines.specs.declared.burst.Deed.TheVariants as deed
use Rattle.scenario_lines.specs.Access.{AccessNow, mark_behind, place_behind}
use Rattle.scenario_lines.specs.Acts.{entry_count}
use Rattle.scenario_lines.specs.Pages.{page_count, page_at}
use Rattle.scenario_lines.specs.Tasks.{StandingNow, TasksNow, mark_of, with_mark, with_place}

-- a task's mark is this; nothing changes where it was
abbrev pub marked : ℕ → ℕ → List StandingNow → List StandingNow
marked task mark st = if mark == mark_of st task then st else with_mark st task mark

-- a task is at this place in a file, or stays where it was
abbrev pub placed_in : ℕ → ℕ → Option ℕ → List StandingNow → List StandingNow
placed_in task file None st = st
placed_in task file (Some place) st = with_place st task file place

-- the mark after the entry of a place
abbrev pub mark_after : AccessNow → ℕ → List StandingNow → List StandingNow
mark_after a place st = marked a.task (mark_behind a.act (page_count a.pages) place (page_at a.pages place) (mark_of st a.task)) st

abbrev pub place_after : AccessNow → ℕ → ℕ → List StandingNow → List StandingNow
place_after a file place st = placed_in a.task file (place_behind a.pages (page_at a.pages place)) st

abbrev pub after_by : Act → AccessNow → ℕ → List StandingNow → List StandingNow
after_by act.Read a place st = st
after_by act.Write a place st = mark_after a place st
after_by (act.Free mark) a place st = mark_after a place st
after_by (act.FileRead file) a place st = place_after a file place st
after_by (act.FileWrite file) a place st = place_after a file place st

-- the standings after one access, that of a place; after the last one there is none
abbrev pub after_access : AccessNow → ℕ → List StandingNow → List StandingNow
after_access a place st = if nat_lt place (page_count a.pages) then after_by a.act a place st else st

-- a child begins with its parent's mark
abbrev pub after_own : ℕ → Command → List StandingNow → List StandingNow
after_own task (command.Fork child) st = with_mark st child (mark_of st task)
after_own task _ st = st

abbrev pub after_command : Actor → Command → List StandingNow → List StandingNow
after_command (actor.Task task) what st = after_own task what st
after_command actor.Shell what st = st
after_command actor.Control what st = st
after_command actor.Daemon what st = st

-- the standings after one entry of a list, that of a place
abbrev pub after_entry : Deed → ℕ → List StandingNow → List StandingNow
after_entry (deed.Access a) place st = after_access a place st
after_entry (deed.Command who what) place st = after_command who what st
after_entry (deed.Raw words) place st = st
after_entry (deed.Note words) place st = st

-- after `many` entries of a list, from a place on
abbrev pub after_entries : Deed → ℕ → ℕ → List StandingNow → List StandingNow
after_entries d from zero st = st
after_entries d from (suc many) st = after_entry d (from + many) (after_entries d from many st)

-- after the first ones, `many` if there are so many
abbrev pub after_first : Deed → ℕ → List StandingNow → List StandingNow
after_first d many st = after_entries d 0 (min many (entry_count d)) st

-- after those from a place on
abbrev pub after_rest : Deed → ℕ → List StandingNow → List StandingNow
after_rest d from st = after_entries d from (entry_count d - from) st

-- the tasks with other standings
abbrev pub standing : TasksNow → List StandingNow → TasksNow
standing tasks st = record tasks { standings = st }
