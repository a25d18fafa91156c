use Rattle.std.proofs.Common.{◌≡◌, ℕ, Option, Some, ap, sym, ◌∙◌, rules, subst}
use Rattle.std.specs.Prelude.{option_map}
use Rattle.machine.specs.declared.record.MemoryStat.{MemoryStat}
use Rattle.machine.specs.State.{State, stat_of}
use Rattle.machine.specs.Tree.{find_group}
use Rattle.book.specs.Looks.{stat_at}
use Rattle.book.proofs.book.Book.stat.Goals as goal

pub returns : goal.returns
returns c =
    let state : State = c.self.inside.state.tables in
    let same : c.args.self.now.state ≡ state = search rules in
    let found : Some c.in_ok-group.group.0 ≡ find_group state.tree c.args.path.now = search rules in
    let shown : Some c.stat.result ≡ stat_at state c.args.path.now =
    ap (λ (stat : MemoryStat). Some stat) c.stat.ensures ∙ ap (λ (group : Option ℕ). option_map (stat_of state) group) found in
    subst (λ (s : State). Some c.stat.result ≡ stat_at s c.args.path.now) (sym same) shown
