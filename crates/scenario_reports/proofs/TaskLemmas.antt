-- What is known of a task, by its number.
use Rattle.std.proofs.Common.{◌≡◌, ℕ, ◌==◌, Bool, true, false, ◌||◌, cond, List, [], ◌∷◌, map, Option, Some, None, refl, arith, unwrap_or}
use Rattle.std.specs.BTreeMap.{is_at}
use Rattle.std.specs.Map.{lookup}
use Rattle.std.specs.Ordering.{nat_cmp, is_eq}
use Rattle.std.proofs.lemmas.Grind.{common_steps}
use Rattle.scenario_reports.specs.declared.tasks.Known.{Known}
use Rattle.scenario_reports.specs.Tasks.{started_task, is_gone}

abbrev pub is_known_gone : Option Known → Bool
is_known_gone None = false
is_known_gone (Some known) = known.killed || known.exits

same_number : (task other : ℕ) → is_eq (nat_cmp task other) ≡ (task == other)
same_number task other = grind (arith, common_steps)

found : (same : Bool) (k : Known) (left : Option Known) (rest : Option Bool) → is_known_gone left ≡ unwrap_or rest false → is_known_gone (cond same (Some k) left) ≡ unwrap_or (cond same (Some (k.killed || k.exits)) rest) false
found true k left rest e = refl
found false k left rest e = e

pub gone_by_number : (task : ℕ) (es : List (ℕ × Known)) → is_known_gone (lookup (is_at (nat_cmp task)) es) ≡ is_gone (map started_task es) task
gone_by_number task [] = refl
gone_by_number task (e ∷ es) = rw (same_number task e.0) (found (task == e.0) e.1 (lookup (is_at (nat_cmp task)) es) (lookup (λ other. task == other) (map started_task es)) (gone_by_number task es))
