-- What a search keeps of a group's lists.
use Rattle.std.specs.Prelude.{◌≡◌, ℕ}
use Rattle.machine.specs.Generations.{Gens, has_page}

-- each type lists the pages that it listed. (Excludes a page that is lost, and one that changes its type.)
pub record ListsSame (old new : Gens) : Type 0 where
  pub anon : (p : ℕ) → has_page p new.anon.pages ≡ has_page p old.anon.pages
  pub file : (p : ℕ) → has_page p new.file.pages ≡ has_page p old.file.pages
