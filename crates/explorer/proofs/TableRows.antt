-- What an insertion makes of the rows of a table.
use Rattle.std.proofs.Common.{◌≡◌, ℕ, ◌+◌, List, [], ◌∷◌, Bool, true, false, cond, Option, Some, None, refl, sym, ap, ◌∙◌}
use Rattle.std.specs.Prelude.{string_bytes, if◌then◌else◌}
use Rattle.std.specs.Str.{bytes_eq}
use Rattle.std.specs.String.{string_eq}
use Rattle.std.specs.Map.{lookup}
use Rattle.std.specs.declared.string.String.{String}
use Rattle.std.specs.declared.alloc.Global.{Global}
use Rattle.indexmap.specs.IndexMap.{insert_entry}
use Rattle.explorer.specs.declared.table.Found.{Found}
use Rattle.explorer.specs.Tally.{Counted, with_order}
use Rattle.explorer.specs.Tables.{shown, shown_rows, row_for, IsFoundWith}

abbrev Entry : Type 0
Entry = String Global × Found

-- what an entry's value shows under its outcome
abbrev Looks : Option Found → Option Counted → Type 0
Looks None None = Unit {0}
Looks None (Some row) = ⊥
Looks (Some found) None = ⊥
Looks (Some found) (Some row) = (row.orders ≡ found.orders) × (row.first ≡ found.first.items)

looks-if : (b : Bool) (found : Found) (row : Counted) (f : Option Found) (r : Option Counted) → row.orders ≡ found.orders → row.first ≡ found.first.items → Looks f r → Looks (cond b (Some found) f) (if b then Some row else r)
looks-if true found row f r e g h = (e, g)
looks-if false found row f r e g h = h

pub looks : (bs : List ℕ) (es : List Entry) → Looks (lookup (λ (k : String Global). bytes_eq bs (string_bytes k)) es) (row_for bs (shown_rows es))
looks bs [] = tt
looks bs (e ∷ es) = looks-if (bytes_eq bs (string_bytes e.0)) e.1 (shown e) _ _ refl refl (looks bs es)

pub found_new : (f : Option Found) (r : Option Counted) (path : List ℕ) (found : Found) → Looks f r → f ≡ None → found.orders ≡ 1 → found.first.items ≡ path → IsFoundWith r path found
found_new None None path found h e a b = (a, b)
found_new None (Some row) path found h e a b = absurd h
found_new (Some g) r path found h e a b = absurd (cc e)

pub found_again : (f : Option Found) (r : Option Counted) (path : List ℕ) (before found : Found) → Looks f r → f ≡ Some before → found.orders ≡ before.orders + 1 → found.first.items ≡ before.first.items → IsFoundWith r path found
found_again None r path before found h e a b = absurd (cc e)
found_again (Some g) None path before found h e a b = absurd h
found_again (Some g) (Some row) path before found h e a b =
    let same : g ≡ before = cc e in
    (a ∙ ap (λ (n : ℕ). n + 1) (sym (h.0 ∙ ap (λ (x : Found). x.orders) same)), b ∙ sym (h.1 ∙ ap (λ (x : Found). x.first.items) same))

insert-at : (k : String Global) (found : Found) (path : List ℕ) (e : Entry) (es : List Entry) (b : Bool) → IsFoundWith (if b then Some (shown e) else row_for (string_bytes k) (shown_rows es)) path found
    → (IsFoundWith (row_for (string_bytes k) (shown_rows es)) path found → shown_rows (insert_entry string_eq es k found) ≡ with_order (shown_rows es) (string_bytes k) path)
    → shown_rows (if b then (e.0, found) ∷ es else e ∷ insert_entry string_eq es k found)
    ≡ (if b then record { outcome = string_bytes e.0; orders = e.1.orders + 1; first = e.1.first.items } ∷ shown_rows es else shown e ∷ with_order (shown_rows es) (string_bytes k) path)
insert-at k found path e es true is below =
    let f : ℕ → List ℕ → List Counted = λ n l. record { outcome = string_bytes e.0; orders = n; first = l } ∷ shown_rows es in
    ap (λ (n : ℕ). f n found.first.items) is.0 ∙ ap (λ (l : List ℕ). f (e.1.orders + 1) l) is.1
insert-at k found path e es false is below = ap (λ (l : List Counted). shown e ∷ l) (below is)

pub insert-shown : (es : List Entry) (k : String Global) (found : Found) (path : List ℕ) → IsFoundWith (row_for (string_bytes k) (shown_rows es)) path found → shown_rows (insert_entry string_eq es k found) ≡ with_order (shown_rows es) (string_bytes k) path
insert-shown [] k found path is =
    let f : ℕ → List ℕ → List Counted = λ n l. record { outcome = string_bytes k; orders = n; first = l } ∷ [] in
    ap (λ (n : ℕ). f n found.first.items) is.0 ∙ ap (λ (l : List ℕ). f 1 l) is.1
insert-shown (e ∷ es) k found path is = insert-at k found path e es (bytes_eq (string_bytes k) (string_bytes e.0)) is (insert-shown es k found path)
