-- What a contract sees of a queue of pages.
use Rattle.std.specs.Prelude.{ℕ, List, map}
use Rattle.machine.specs.declared.id.PageId.{PageId}

-- the numbers of the pages, the first of the queue first; and for how many of them there is memory
pub record QueueOf : Type 0 where
  pub numbers : List ℕ
  pub room : ℕ

abbrev pub numbers_of : List PageId → List ℕ
numbers_of pages = map (λ page. page.0) pages
