-- A table, one row written.
use Rattle.std.proofs.Common.{◌≡◌, ℕ, ◌<◌, ◌==◌, Bool, true, false, cond, List, length, set, sym, ap, ◌∙◌, refl, subst, inl, inr, eq-eqb, ne_eqb, get_or-set_same, get_or-set_other}
use Rattle.std.proofs.lemmas.List.{set-set}
use Rattle.machine.proofs.TreeLemmas.{eq_cases}
use Rattle.trace.specs.declared.link.Link.{Link}
use Rattle.trace.specs.declared.link.Link.TheVariants as link
use Rattle.trace.specs.Rows.{RowOf, at_row, empty_row}
use Rattle.trace.specs.Heads.{MayBe, link_in}

pub may-same : (l : Link) → MayBe l l
may-same link.Unknown = tt
may-same link.First = refl
may-same (link.After j) = refl

pub may-equal : (l other : Link) → l ≡ other → MayBe l other
may-equal l other e = subst (λ (x : Link). MayBe l x) e (may-same l)

pub may-along : (l m n : Link) → MayBe l m → MayBe m n → MayBe l n
may-along link.Unknown m n h k = tt
may-along link.First m n h k = subst (λ (x : Link). MayBe x n) (sym h) k
may-along (link.After j) m n h k = subst (λ (x : Link). MayBe x n) (sym h) k

row-same : (rows : List RowOf) (row : ℕ) (now : RowOf) (f : ℕ → Link) → row < length rows → ((c : ℕ) → MayBe (at_row now c) (f c))
    → (r c : ℕ) → row ≡ r → MayBe (link_in (set rows row now) r c) (cond (row == r) (f c) (link_in rows r c))
row-same rows row now f lt h r c same =
    let test : (row == r) ≡ true = eq-eqb row r same in
    let there : link_in (set rows row now) r c ≡ at_row now c =
    ap (λ n. link_in (set rows row now) n c) (sym same) ∙ ap (λ (x : RowOf). at_row x c) (get_or-set_same rows row now empty_row lt) in
    let may = subst (λ (x : Link). MayBe x (f c)) (sym there) (h c) in
    subst (λ (b : Bool). MayBe (link_in (set rows row now) r c) (cond b (f c) (link_in rows r c))) (sym test) may

row-other : (rows : List RowOf) (row : ℕ) (now : RowOf) (f : ℕ → Link) (r c : ℕ) → (row ≡ r → ⊥) → MayBe (link_in (set rows row now) r c) (cond (row == r) (f c) (link_in rows r c))
row-other rows row now f r c apart =
    let test : (row == r) ≡ false = ne_eqb row r apart in
    let there : link_in (set rows row now) r c ≡ link_in rows r c = ap (λ (x : RowOf). at_row x c) (get_or-set_other rows row r now empty_row (λ e. apart (sym e))) in
    subst (λ (b : Bool). MayBe (link_in (set rows row now) r c) (cond b (f c) (link_in rows r c))) (sym test) (may-equal (link_in (set rows row now) r c) (link_in rows r c) there)

-- a row written
pub row-set : (rows : List RowOf) (row : ℕ) (now : RowOf) (f : ℕ → Link) → row < length rows → ((c : ℕ) → MayBe (at_row now c) (f c))
    → (r c : ℕ) → MayBe (link_in (set rows row now) r c) (cond (row == r) (f c) (link_in rows r c))
row-set rows row now f lt h r c =
    elim (eq_cases row r) [
      | inl same ↦ row-same rows row now f lt h r c same
      | inr apart ↦ row-other rows row now f r c apart
    ]

row-emptied : (rows : List RowOf) (to : ℕ) (empty : RowOf) (from c : ℕ) → to < length rows → empty ≡ empty_row → MayBe (link_in (set rows to empty) from c) (link_in rows from c)
row-emptied rows to empty from c lt none =
    elim (eq_cases to from) [
      | inl same ↦ (let there : link_in (set rows to empty) from c ≡ link.Unknown =
          ap (λ n. link_in (set rows to empty) n c) (sym same) ∙ ap (λ (x : RowOf). at_row x c) (get_or-set_same rows to empty empty_row lt ∙ none) in
          subst (λ (x : Link). MayBe x (link_in rows from c)) (sym there) tt)
      | inr apart ↦ may-equal (link_in (set rows to empty) from c) (link_in rows from c)
          (ap (λ (x : RowOf). at_row x c) (get_or-set_other rows to from empty empty_row (λ e. apart (sym e))))
    ]

-- a row by another of the table, taken out while it is written
pub row-copied : (rows : List RowOf) (to from : ℕ) (empty row : RowOf) → to < length rows → empty ≡ empty_row → ((c : ℕ) → MayBe (at_row row c) (link_in (set rows to empty) from c))
    → (r c : ℕ) → MayBe (link_in (set (set rows to empty) to row) r c) (cond (to == r) (link_in rows from c) (link_in rows r c))
row-copied rows to from empty row lt none h r c =
    let may = row-set rows to row (link_in rows from) lt
    (λ c. may-along (at_row row c) (link_in (set rows to empty) from c) (link_in rows from c) (h c) (row-emptied rows to empty from c lt none)) r c in
    subst (λ (x : List RowOf). MayBe (link_in x r c) (cond (to == r) (link_in rows from c) (link_in rows r c))) (sym (set-set rows to empty row)) may
