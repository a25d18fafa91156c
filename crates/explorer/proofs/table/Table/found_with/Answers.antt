use Rattle.std.proofs.Common.{rules, ◌≡◌, List, Option, None, Some, refl, ap, sym, ◌∙◌, subst}
use Rattle.std.specs.Prelude.{string_bytes, ℕ, ◌+◌}
use Rattle.std.specs.Str.{bytes_eq}
use Rattle.std.specs.Map.{lookup}
use Rattle.std.specs.Option.{option_copied}
use Rattle.std.specs.declared.string.String.{String}
use Rattle.std.specs.declared.alloc.Global.{Global}
use Rattle.explorer.specs.declared.table.Found.{Found}
use Rattle.explorer.specs.Tally.{Counted}
use Rattle.explorer.specs.Tables.{row_for, IsFoundWith}
use Rattle.explorer.proofs.TableRows.{looks, found_new, found_again}
use Rattle.explorer.proofs.table.Table.found_with.Goals as goal

pub returns-in_ok-to_vec-in-None : goal.returns-in_ok-to_vec-in-None
returns-in_ok-to_vec-in-None c =
    let bs = string_bytes c.args.outcome.now in
    let es = c.self.inside.rows.entries in
    let F : List ℕ → Option Found = λ (bs : List ℕ). lookup (λ (k : String Global). bytes_eq bs (string_bytes k)) es in
    let none : F bs ≡ None = ap F (sym c.as_str.ensures.value) ∙ (sym c.get.ensures.value ∙ ap option_copied c.in-None.is) in
    let items : c.in_ok-to_vec-in-None.field-0.items ≡ c.args.path.now = search rules in
    let P : List Counted → Type 0 = λ (rows : List Counted). IsFoundWith (row_for bs rows) c.args.path.now (record { orders = 1; first = c.in_ok-to_vec-in-None.field-0 }) in
    subst P c.self.view_is (found_new _ (row_for bs _) c.args.path.now _ (looks bs es) none refl items)

pub returns-in_ok-to_vec-in-Some : goal.returns-in_ok-to_vec-in-Some
returns-in_ok-to_vec-in-Some c =
    let bs = string_bytes c.args.outcome.now in
    let es = c.self.inside.rows.entries in
    let F : List ℕ → Option Found = λ (bs : List ℕ). lookup (λ (k : String Global). bytes_eq bs (string_bytes k)) es in
    let some : F bs ≡ Some c.in-Some.found.now = ap F (sym c.as_str.ensures.value) ∙ (sym c.get.ensures.value ∙ ap option_copied c.in-Some.is) in
    let orders : c.in-Some-checked_add.orders ≡ c.in-Some.found.now.orders + 1 = search rules in
    let items : c.in_ok-to_vec-in-Some.field-0.items ≡ c.in-Some.found.now.first.items = search rules in
    let P : List Counted → Type 0 = λ (rows : List Counted). IsFoundWith (row_for bs rows) c.args.path.now (record { orders = c.in-Some-checked_add.orders; first = c.in_ok-to_vec-in-Some.field-0 }) in
    subst P c.self.view_is (found_again _ (row_for bs _) c.args.path.now c.in-Some.found.now _ (looks bs es) some orders items)
