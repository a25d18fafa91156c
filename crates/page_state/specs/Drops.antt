-- Pages that go since nothing maps them any more.
use Rattle.std.specs.Prelude.{◌≡◌, ◌≢◌, ℕ, ◌<◌, ◌≤◌, Bool, true, false, None}
use Rattle.machine.specs.Tasks.{mapped_at}
use Rattle.pages.specs.declared.residence.Residence.{Residence}
use Rattle.pages.specs.declared.residence.Residence.TheVariants as residence
use Rattle.page_state.specs.States.{StateOf}
use Rattle.page_state.specs.Changes.{DropsPages}

abbrev pub is_transfer : Residence → Bool
is_transfer residence.Coming = true
is_transfer residence.Going = true
is_transfer other = false

-- how far an unmapping of all virtual pages of a task is: those below this one show nothing any more
pub record UnmapsBelow (old new : StateOf) (t n : ℕ) : Type 0 where
  pub below : (v : ℕ) → v < n → mapped_at new.tables.page_tables t v ≡ None
  pub above : (v : ℕ) → n ≤ v → mapped_at new.tables.page_tables t v ≡ mapped_at old.tables.page_tables t v
  pub others : (u v : ℕ) → u ≢ t → mapped_at new.tables.page_tables u v ≡ mapped_at old.tables.page_tables u v
  pub drops : DropsPages old new
  pub tables : new.tables ≡ record old.tables { pages = new.tables.pages; page_tables = new.tables.page_tables }
