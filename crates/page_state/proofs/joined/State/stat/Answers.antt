use Rattle.std.proofs.Common.{◌≡◌, ◌∙◌, ◌+◌, ◌-◌, ℕ, sym, ap, subst, arith}
use Rattle.machine.specs.declared.record.MemoryStat.{MemoryStat}
use Rattle.machine.specs.Pages.{charged, charged_anon}
use Rattle.page_state.specs.States.{StateOf}
use Rattle.page_state.proofs.StatLemmas.{charged-parts}
use Rattle.page_state.proofs.joined.State.stat.Goals as goal

-- what is charged is what holds memory and what holds pages of files
parts : (c : goal.After-usage) → c.usage.result ≡ charged_anon c.self.inside.tree c.self.inside.parts.pages.pages c.args.group.0 + c.file_usage-file.result
parts c =
    let s = c.self.inside in
    let usage : c.usage.result ≡ charged s.tree s.parts.pages.pages c.args.group.0 = subst (λ (s : StateOf). c.usage.result ≡ charged s.tables.tree s.tables.pages c.args.group.0) (sym c.self.view_is) c.usage.ensures in
    usage ∙ charged-parts s.tree s.parts.pages.pages c.args.group.0 ∙ ap (λ (n : ℕ). charged_anon s.tree s.parts.pages.pages c.args.group.0 + n) (sym c.file_usage-file.ensures)

pub overflow_sub-anon : goal.overflow_sub-anon
overflow_sub-anon c = let both = parts c in omega (arith, both)

pub returns : goal.returns
returns c =
    let s = c.self.inside in
    let both = parts c in
    let anon : c.usage.result - c.file_usage-file.result ≡ charged_anon s.tree s.parts.pages.pages c.args.group.0 = omega (arith, both) in
    rw (← c.self.view_is)
    (ap (λ (n : ℕ). let stat : MemoryStat = record { anon = n; file = c.file_usage-file.result } in stat) anon
    ∙ ap (λ (n : ℕ). let stat : MemoryStat = record { anon = charged_anon s.tree s.parts.pages.pages c.args.group.0; file = n } in stat) c.file_usage-file.ensures)
