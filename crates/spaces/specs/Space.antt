-- What a contract sees of `Spaces`.
use Rattle.std.specs.Prelude.{ℕ}
use Rattle.machine.specs.Tasks.{Tasks, PageTables}

-- the tasks, their page tables, and how many page numbers there are: each is below it; how many groups there are, and for how many more there is memory
pub record Space : Type 0 where
  pub tasks : Tasks
  pub page_tables : PageTables
  pub numbers : ℕ
  pub groups : ℕ
  pub room : ℕ
