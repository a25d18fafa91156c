-- What a contract sees of the history under the lock.
use Rattle.std.specs.Prelude.{ℕ, List}
use Rattle.atomic_table.specs.Seated.{TableId}
use Rattle.live.specs.declared.history.Told.{Told}
use Rattle.live.specs.declared.history.View.{View}

-- which history it is, how many passes were given out, and what was told to whom, the newest first
pub record LogOf : Type 0 where
  pub table : TableId
  pub given : ℕ
  pub log : List Told

pub record EndingOf : Type 0 where
  pub table : TableId
  pub view : View
