-- What holds of both types of a group's pages, said over the type.
use Rattle.std.proofs.Common.{◌≡◌, ◌≢◌, ◌⊎◌, ℕ, ◌||◌, Bool, List, true, false, refl, sym, ap, ◌∙◌, inl, inr}
use Rattle.std.proofs.lemmas.Bool.{cases_Bool, or_cases, or_left, or_right, false≢true, false_from_ne_true}
use Rattle.machine.specs.declared.record.Kind.{Kind}
use Rattle.machine.specs.declared.record.Kind.TheVariants.{Anon, File}
use Rattle.machine.specs.Generations.{Listed, Row, Gens, of_kind, row_of, on_row, entered, without, added, isolated, has_page, is_listed, kind_of, IsRow, IsGens, AreDistinct}
use Rattle.page_lists.proofs.ListedLemmas.{distinct-front, distinct-back, distinct-apart, distinct-append}

pub anon_is_no_file : Anon ≢ File
anon_is_no_file same = cc

pub file_is_no_anon : File ≢ Anon
file_is_no_anon same = cc

pub cases_kind : (k j : Kind) → (k ≡ j) ⊎ (k ≢ j)
cases_kind Anon Anon = inl refl
cases_kind Anon File = inr anon_is_no_file
cases_kind File Anon = inr file_is_no_anon
cases_kind File File = inl refl

pub each_kind : (P : Kind → Type 0) → P Anon → P File → (k : Kind) → P k
each_kind P anon file Anon = anon
each_kind P anon file File = file

-- of two values that of one type is changed
pub each_of : {A : Type 0} (P : Kind → A → Type 0) (k : Kind) (to a f : A) → P k to → ((j : Kind) → j ≢ k → P j (of_kind j a f)) → (j : Kind) → P j (of_kind j (of_kind k to a) (of_kind k f to))
each_of P Anon to a f own others Anon = own
each_of P Anon to a f own others File = others File file_is_no_anon
each_of P File to a f own others Anon = others Anon anon_is_no_file
each_of P File to a f own others File = own

-- ---- a group's rows

pub row_by : (least : ℕ) {xs ys : List Listed} → xs ≡ ys → ◌≡◌ {A = Row} (record { min_seq = least; pages = xs }) (record { min_seq = least; pages = ys })
row_by least same = ap (λ (ps : List Listed). let r : Row = record { min_seq = least; pages = ps } in r) same

pub both_rows : {top : ℕ} {a b c d : Row} → a ≡ b → c ≡ d → ◌≡◌ {A = Gens} (record { max_seq = top; anon = a; file = c }) (record { max_seq = top; anon = b; file = d })
both_rows anon file = cc

-- where the row of one type is changed
pub each_row : (P : Kind → Row → Type 0) (k : Kind) (change : Row → Row) (x : Gens) → P k (change (row_of k x)) → ((j : Kind) → j ≢ k → P j (row_of j x)) → (j : Kind) → P j (row_of j (on_row k change x))
each_row P Anon change x own others Anon = own
each_row P Anon change x own others File = others File file_is_no_anon
each_row P File change x own others Anon = others Anon anon_is_no_file
each_row P File change x own others File = own

-- where a page goes from its place to the row of one type
pub each_sent : (P : Kind → List Listed → Type 0) (k : Kind) (x : Gens) (p seq : ℕ) → P k (entered p seq (without p (row_of k x).pages)) → ((j : Kind) → j ≢ k → P j (without p (row_of j x).pages)) → (j : Kind) → P j (row_of j (added p k seq (isolated p x))).pages
each_sent P Anon x p seq own others Anon = own
each_sent P Anon x p seq own others File = others File file_is_no_anon
each_sent P File x p seq own others Anon = others Anon anon_is_no_file
each_sent P File x p seq own others File = own

pub row_listed : (x : Gens) (p : ℕ) (k : Kind) → has_page p (row_of k x).pages ≡ true → is_listed x p ≡ true
row_listed x p Anon h = or_right (has_page p x.file.pages) (has_page p x.anon.pages) h
row_listed x p File h = or_left (has_page p x.file.pages) (has_page p x.anon.pages) h

pub listed_row : (x : Gens) (p : ℕ) → is_listed x p ≡ true → (k : Kind) × (has_page p (row_of k x).pages ≡ true)
listed_row x p h =
    elim (or_cases (has_page p x.file.pages) (has_page p x.anon.pages) h) [
      | inl file ↦ (File, file)
      | inr anon ↦ (Anon, anon)
    ]

pub in_no_row : (x : Gens) (p : ℕ) → ((k : Kind) → has_page p (row_of k x).pages ≡ false) → is_listed x p ≡ false
in_no_row x p none = ap (λ (b : Bool). b || has_page p x.anon.pages) (none File) ∙ none Anon

-- ---- sound lists

pub sound_row : {x : Gens} → IsGens x → (k : Kind) → IsRow x.max_seq (row_of k x)
sound_row is Anon = is.anon
sound_row is File = is.file

pub sound_distinct : {x : Gens} → IsGens x → (k : Kind) → AreDistinct (row_of k x).pages
sound_distinct {x} is Anon = distinct-front x.anon.pages x.file.pages is.distinct
sound_distinct {x} is File = distinct-back x.anon.pages x.file.pages is.distinct

-- no page is of both types
pub sound_apart : {x : Gens} → IsGens x → (k j : Kind) → j ≢ k → (p : ℕ) → has_page p (row_of k x).pages ≡ true → has_page p (row_of j x).pages ≡ false
sound_apart is Anon Anon differs p h = absurd (differs refl)
sound_apart {x} is Anon File differs p h = distinct-apart x.anon.pages x.file.pages is.distinct p h
sound_apart {x} is File Anon differs p h =
    false_from_ne_true (has_page p x.anon.pages) (λ too. false≢true (sym (distinct-apart x.anon.pages x.file.pages is.distinct p too) ∙ h))
sound_apart is File File differs p h = absurd (differs refl)

-- rows that are changed alike, and get no page
pub sound_rows : {x : Gens} → IsGens x → (top : ℕ) (change : Row → Row) → ((row : Row) → IsRow x.max_seq row → IsRow top (change row)) → ((row : Row) → AreDistinct row.pages → AreDistinct (change row).pages) → ((row : Row) (p : ℕ) → has_page p (change row).pages ≡ true → has_page p row.pages ≡ true) → IsGens (record { max_seq = top; anon = change x.anon; file = change x.file })
sound_rows {x} is top change rows distinct from = record {
  anon = rows x.anon is.anon;
  file = rows x.file is.file;
  distinct = distinct-append (change x.anon).pages (change x.file).pages (distinct x.anon (sound_distinct is Anon)) (distinct x.file (sound_distinct is File)) (λ p h.
      false_from_ne_true (has_page p (change x.file).pages) (λ too.
      false≢true (sym (sound_apart is Anon File file_is_no_anon p (from x.anon p h)) ∙ from x.file p too)));
}

-- ---- the type of a page

pub kind_is : {x : Gens} → IsGens x → (k : Kind) (p : ℕ) → has_page p (row_of k x).pages ≡ true → kind_of x p ≡ k
kind_is is Anon p h = rw (sound_apart is Anon File file_is_no_anon p h) refl
kind_is is File p h = rw h refl

pub kind_row : (x : Gens) (p : ℕ) → is_listed x p ≡ true → has_page p (row_of (kind_of x p) x).pages ≡ true
kind_row x p h =
    elim (cases_Bool (has_page p x.file.pages)) [
      | inl file ↦ rw file file
      | inr none ↦ rw none (sym (ap (λ (b : Bool). b || has_page p x.anon.pages) none) ∙ h)
    ]
