-- Marks and places after entries.
use Rattle.std.proofs.Common.{◌≡◌, ℕ, zero, suc, ◌+◌, ◌-◌, ◌≤◌, List, refl, ap, ◌∙◌, arith}
use Rattle.scenario_lines.specs.Access.{AccessNow}
use Rattle.scenario_lines.specs.declared.burst.Deed.{Deed}
use Rattle.scenario_lines.specs.declared.burst.Deed.TheVariants as deed
use Rattle.scenario_lines.specs.Tasks.{StandingNow, TasksNow}
use Rattle.expansion.specs.Standings.{after_access, after_entry, after_entries, standing}

pub more_entries : (a : AccessNow) (from place : ℕ) (t0 t next : TasksNow) → from ≤ place → t ≡ standing t0 (after_entries (deed.Access a) from (place - from) t0.standings)
    → next ≡ standing t (after_access a place t.standings) → next ≡ standing t0 (after_entries (deed.Access a) from (place + 1 - from) t0.standings)
more_entries a from place t0 t next above held e =
    let many : place + 1 - from ≡ suc (place - from) = omega arith in
    let here : from + (place - from) ≡ place = omega arith in
    rw (e, held, many, here) refl

pub all_entries : (d : Deed) (from place end : ℕ) (t0 t : TasksNow) → place - from ≡ end - from → t ≡ standing t0 (after_entries d from (place - from) t0.standings) → t ≡ standing t0 (after_entries d from (end - from) t0.standings)
all_entries d from place end t0 t same held = held ∙ ap (λ (k : ℕ). standing t0 (after_entries d from k t0.standings)) same

-- the first entry, and then the others
pub one_then_rest : (d : Deed) (from many : ℕ) (st : List StandingNow) → after_entries d from (suc many) st ≡ after_entries d (from + 1) many (after_entry d from st)
one_then_rest d from zero st = let e : from + zero ≡ from = omega arith in ap (λ (k : ℕ). after_entry d k st) e
one_then_rest d from (suc many) st =
    let e : from + suc many ≡ from + 1 + many = omega arith in
    ap (λ (k : ℕ). after_entry d k (after_entries d from (suc many) st)) e ∙ ap (after_entry d (from + 1 + many)) (one_then_rest d from many st)
