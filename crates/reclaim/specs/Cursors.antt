-- What contracts see of the cursors.
use Rattle.std.specs.Prelude.{ℕ, List}
use Rattle.group_tree.specs.Tables.{number}
use Rattle.machine.specs.Order as order
use Rattle.reclaim.specs.declared.cursor.Cursor.{Cursor}

-- by target, whose turn it is; and for how many targets more there is memory
pub record CursorsOf : Type 0 where
  pub cursors : List order.Cursor
  pub room : ℕ

-- whose turn it is, with the group by its number
abbrev pub cursor_of : Cursor → order.Cursor
cursor_of cursor = record { group = number cursor.group; left = cursor.left; unit = cursor.unit }
