-- The pages that a line names, each by its place.
use Rattle.std.specs.Prelude.{ℕ, ◌+◌, ◌-◌, ◌^◌, ◌%◌, Bool, nat_lt}
use Rattle.scenarios.specs.Draws.{drawn_page}
use Rattle.scenario_lines.specs.declared.pages.Pages.{Pages}
use Rattle.scenario_lines.specs.declared.pages.Pages.TheVariants as pages

-- how many there are
abbrev pub page_count : Pages → ℕ
page_count (pages.Run first count) = count
page_count (pages.Drawn from to seed count) = count
page_count (pages.Round first size count) = count

-- each of them is a number of 32 bits
abbrev pub fits : Pages → Bool
fits (pages.Run first count) = nat_lt (first + count) (2 ^ 32)
fits (pages.Drawn from to seed count) = nat_lt from to
fits (pages.Round first size count) = nat_lt 0 size

-- the one of a place, from 0: a run goes on by one, draws are counted from 1, and a file's first page comes behind its last
abbrev pub page_at : Pages → ℕ → ℕ
page_at (pages.Run first count) place = first + place
page_at (pages.Drawn from to seed count) place = drawn_page seed (place + 1) from to
page_at (pages.Round first size count) place = (first + place) % size

-- the pages from a first one to before another
abbrev pub run_between : ℕ → ℕ → Pages
run_between first after = pages.Run first (after - first)
