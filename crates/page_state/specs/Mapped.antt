-- How pages and page tables agree.
use Rattle.std.specs.Prelude.{◌≡◌, ℕ, ◌≤◌, ◌&&◌, not, false, Option, Some, None, IfSome, if◌then◌else◌}
use Rattle.machine.specs.Pages.{Page, Pages, page_at, is_anon, is_in_transfer}
use Rattle.machine.specs.Tasks.{PageTables, mappers}

-- memory in transfer may be left without a mapping, until its end, and a page of a file has none
abbrev pub is_settled : Option Page → ℕ
is_settled None = 0
is_settled (Some page) = if is_anon page.content && not (is_in_transfer page) then 1 else 0

pub record AreMapped (pages : Pages) (tables : PageTables) : Type 0 where
  -- a page that is not there is mapped nowhere
  pub there : (p : ℕ) → page_at pages p ≡ None → mappers tables p ≡ 0
  -- memory that is there and in no transfer is mapped
  pub least : (p : ℕ) → is_settled (page_at pages p) ≤ mappers tables p
  -- a page of a file is mapped nowhere
  pub files : (p : ℕ) → IfSome (page_at pages p) (λ page. is_anon page.content ≡ false → mappers tables p ≡ 0)
