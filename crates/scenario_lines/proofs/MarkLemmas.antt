-- Marks behind the first entries of a line.
use Rattle.std.proofs.Common.{◌≡◌, ℕ, zero, suc, ◌+◌, ◌≤◌, arith}
use Rattle.scenario_lines.specs.declared.access.Act.TheVariants as act
use Rattle.scenario_lines.specs.Acts.{written}
use Rattle.scenario_lines.specs.Marks.{mark_after}

pub raised : (mark pages : ℕ) → mark + pages ≤ 1024 → (left : ℕ) → left ≤ pages → mark_after act.Write (written mark pages) left mark ≡ mark + left
raised mark pages fits zero within = omega arith
raised mark pages fits (suc k) within = let before = raised mark pages fits k (omega arith) in omega arith
