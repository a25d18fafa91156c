-- Marks behind several entries of a line.
use Rattle.std.specs.Prelude.{◌≡◌, ℕ, zero, suc, ◌+◌, ◌≤◌}
use Rattle.scenario_lines.specs.declared.access.Act.{Act}
use Rattle.scenario_lines.specs.declared.access.Act.TheVariants as act
use Rattle.scenario_lines.specs.declared.pages.Pages.{Pages}
use Rattle.scenario_lines.specs.Access.{mark_behind}
use Rattle.scenario_lines.specs.Acts.{written}
use Rattle.scenario_lines.specs.Pages.{page_count, page_at}

-- a task's mark behind the first entries of a line, so many: what is left of it, where it is cut
abbrev pub mark_after : Act → Pages → ℕ → ℕ → ℕ
mark_after what pages zero mark = mark
mark_after what pages (suc k) mark = mark_behind what (page_count pages) k (page_at pages k) (mark_after what pages k mark)

-- each page of `write SIZE` that is left raises the mark by one
abbrev pub WriteRaises : ℕ → ℕ → Type 0
WriteRaises mark pages = (left : ℕ) → left ≤ pages → mark_after act.Write (written mark pages) left mark ≡ mark + left
