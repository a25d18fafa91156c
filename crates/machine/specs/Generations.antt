-- The generation lists of the groups (mm/multigen_lru: "Generations").
use Rattle.std.specs.Prelude.{◌≡◌, ℕ, ◌+◌, ◌-◌, ◌≤◌, ◌==◌, ◌||◌, not, nat_lt, nat_le, max, Bool, true, false, if◌then◌else◌, List, [], ◌∷◌, ◌++◌, map, filter, slice_index_or, slice_set, Option, Some, None}
use Rattle.std.specs.List.{list_any, AllByRecursion}
use Rattle.machine.specs.declared.record.Kind.{Kind}
use Rattle.machine.specs.declared.record.Kind.TheVariants.{Anon, File}

-- a page on a list, with the sequence number of its generation
pub record Listed : Type 0 where
  pub page : ℕ
  pub seq : ℕ

-- the lists of one type as one row: the oldest generation's pages first, and within a generation first in, first out
pub record Row : Type 0 where
  pub min_seq : ℕ
  pub pages : List Listed

-- the lists of one group (kernel: struct lru_gen_folio). Both types share the youngest generation's number
pub record Gens : Type 0 where
  pub max_seq : ℕ
  pub anon : Row
  pub file : Row

-- a group begins with four generations of each type, and no page
abbrev pub new_gens : Gens
new_gens = record { max_seq = 3; anon = record { min_seq = 0; pages = [] }; file = record { min_seq = 0; pages = [] } }

-- of two values, one a type, that of this type
abbrev pub of_kind : {A : Type 0} → Kind → A → A → A
of_kind Anon a f = a
of_kind File a f = f

abbrev pub row_of : Kind → Gens → Row
row_of kind gens = of_kind kind gens.anon gens.file

-- the row of one type is changed, and the other stays
abbrev pub on_row : Kind → (Row → Row) → Gens → Gens
on_row kind change gens =
    record {
      max_seq = gens.max_seq;
      anon = of_kind kind (change gens.anon) gens.anon;
      file = of_kind kind gens.file (change gens.file);
    }

-- ---- which pages are listed

abbrev pub has_page : ℕ → List Listed → Bool
has_page p pages = list_any (λ l. l.page == p) pages

abbrev pub is_listed : Gens → ℕ → Bool
is_listed gens p = has_page p gens.file.pages || has_page p gens.anon.pages

-- the type of a listed page
abbrev pub kind_of : Gens → ℕ → Kind
kind_of gens p = if has_page p gens.file.pages then File else Anon

-- the pages of both types
abbrev pub listed : Gens → List Listed
listed gens = gens.anon.pages ++ gens.file.pages

-- ---- changes of a row, and of a group's lists

abbrev pub at_seq : ℕ → Listed → Listed
at_seq seq l = record { page = l.page; seq = seq }

-- the page stands behind all pages of its own and of older generations
abbrev pub entered : ℕ → ℕ → List Listed → List Listed
entered p seq pages = filter (λ l. nat_le l.seq seq) pages ++ record { page = p; seq = seq } ∷ filter (λ l. nat_lt seq l.seq) pages

abbrev pub without : ℕ → List Listed → List Listed
without p pages = filter (λ l. not (l.page == p)) pages

-- a page enters a generation of its type, at the tail (kernel: lru_gen_add_folio)
abbrev pub added : ℕ → Kind → ℕ → Gens → Gens
added p kind seq gens =
    record {
      max_seq = gens.max_seq;
      anon = record { min_seq = gens.anon.min_seq; pages = of_kind kind (entered p seq gens.anon.pages) gens.anon.pages };
      file = record { min_seq = gens.file.min_seq; pages = of_kind kind gens.file.pages (entered p seq gens.file.pages) };
    }

-- a page leaves, and the others keep their places (kernel: lru_gen_del_folio)
abbrev pub isolated : ℕ → Gens → Gens
isolated p gens =
    record {
      max_seq = gens.max_seq;
      anon = record { min_seq = gens.anon.min_seq; pages = without p gens.anon.pages };
      file = record { min_seq = gens.file.min_seq; pages = without p gens.file.pages };
    }

-- the first page of the oldest generation
abbrev pub first_at : ℕ → List Listed → Option ℕ
first_at seq [] = None
first_at seq (l ∷ ls) = if l.seq == seq then Some l.page else None

abbrev pub front_of : Row → Option ℕ
front_of row = first_at row.min_seq row.pages

-- the page that stands behind this one in the row
abbrev pub after_in : ℕ → List Listed → Option ℕ
after_in p [] = None
after_in p (l ∷ []) = None
after_in p (l ∷ next ∷ ls) = if l.page == p then Some next.page else after_in p (next ∷ ls)

-- the oldest generation is no more, and its pages stand in front of the next one's. (Excludes pages merged behind the next generation's.)
abbrev pub merged : Row → Row
merged row = record { min_seq = row.min_seq + 1; pages = map (λ l. at_seq (max (row.min_seq + 1) l.seq) l) row.pages }

-- the oldest generation, which has no page, is no more
abbrev pub raised : Row → Row
raised row = record { min_seq = row.min_seq + 1; pages = row.pages }

-- a younger generation begins, with no page
abbrev pub advanced : Gens → Gens
advanced gens = record { max_seq = gens.max_seq + 1; anon = gens.anon; file = gens.file }

-- pages enter a generation in their order, behind those that are there
abbrev pub taken_in : ℕ → List Listed → List Listed → List Listed
taken_in seq more pages = filter (λ l. nat_le l.seq seq) pages ++ (map (at_seq seq) more ++ filter (λ l. nat_lt seq l.seq) pages)

-- the pages of one group's lists enter the second youngest generation of another's, the oldest first. (Excludes pages that come in front of those that are there, and pages that count as
-- used since they came.)
abbrev pub taken_over : Gens → Gens → Gens
taken_over from to =
    record {
      max_seq = to.max_seq;
      anon = record { min_seq = to.anon.min_seq; pages = taken_in (to.max_seq - 1) from.anon.pages to.anon.pages };
      file = record { min_seq = to.file.min_seq; pages = taken_in (to.max_seq - 1) from.file.pages to.file.pages };
    }

-- lists without a page
abbrev pub emptied : Gens → Gens
emptied gens = record { max_seq = gens.max_seq; anon = record { min_seq = gens.anon.min_seq; pages = [] }; file = record { min_seq = gens.file.min_seq; pages = [] } }

-- ---- all groups

-- the lists of a group, by number. What is no group's number has no page
abbrev pub gens_at : List Gens → ℕ → Gens
gens_at groups g = slice_index_or groups g new_gens

-- a group has other lists, and the other groups keep theirs
abbrev pub with_gens : List Gens → ℕ → Gens → List Gens
with_gens groups g gens = slice_set groups g gens

-- all pages of one group's lists go over to another's
abbrev pub handed_over : ℕ → ℕ → List Gens → List Gens
handed_over from to groups = with_gens (with_gens groups to (taken_over (gens_at groups from) (gens_at groups to))) from (emptied (gens_at groups from))

-- the page is on a list of some group
abbrev pub is_listed_in : List Gens → ℕ → Bool
is_listed_in groups p = list_any (λ gens. is_listed gens p) groups

-- ---- what holds of all lists

-- no number falls along the row
abbrev pub IsRising : List Listed → Type 0
IsRising [] = Unit {0}
IsRising (l ∷ ls) = AllByRecursion (λ k. l.seq ≤ k.seq) ls × IsRising ls

-- no page is there twice
abbrev pub AreDistinct : List Listed → Type 0
AreDistinct [] = Unit {0}
AreDistinct (l ∷ ls) = (has_page l.page ls ≡ false) × AreDistinct ls

-- the pages stand by rising number, each between the row's numbers, of which there are 2 to 4
pub record IsRow (max_seq : ℕ) (row : Row) : Type 0 where
  pub within : AllByRecursion (λ l. (row.min_seq ≤ l.seq) × (l.seq ≤ max_seq)) row.pages
  pub rising : IsRising row.pages
  pub two : row.min_seq + 1 ≤ max_seq
  pub four : max_seq ≤ row.min_seq + 3

pub record IsGens (gens : Gens) : Type 0 where
  pub anon : IsRow gens.max_seq gens.anon
  pub file : IsRow gens.max_seq gens.file
  pub distinct : AreDistinct (listed gens)

-- each group's lists are sound, and no page is listed by two groups
pub record AreGens (groups : List Gens) : Type 0 where
  pub each : (g : ℕ) → IsGens (gens_at groups g)
  pub apart : (g h p : ℕ) → is_listed (gens_at groups g) p ≡ true → is_listed (gens_at groups h) p ≡ true → g ≡ h
