-- A new youngest generation (mm/multigen_lru: "Aging").
use Rattle.std.specs.Prelude.{ℕ, ◌+◌, ◌==◌, not, Bool, false, if◌then◌else◌, List, [], ◌∷◌, ◌++◌, map, filter, slice_index_or, slice_set}
use Rattle.machine.specs.Generations.{Listed, Row, Gens, listed, at_seq, merged}

-- the lists of a group, and by page number whether a page is marked as accessed: pages anywhere, not on these lists alone
pub record Seen : Type 0 where
  pub gens : Gens
  pub marks : List Bool

abbrev pub is_marked : List Bool → ℕ → Bool
is_marked marks p = slice_index_or marks p false

abbrev pub has_mark : List Bool → Listed → Bool
has_mark marks l = is_marked marks l.page

-- the marks without those of these pages
abbrev pub cleared : List Listed → List Bool → List Bool
cleared [] marks = marks
cleared (l ∷ ls) marks = cleared ls (slice_set marks l.page false)

-- where there are four generations, the oldest becomes part of the next
abbrev pub at_most_three : ℕ → Row → Row
at_most_three max_seq row = if row.min_seq + 3 == max_seq then merged row else row

-- the marked pages go to the tail of this generation, in their order
abbrev pub promoted : ℕ → List Bool → Row → Row
promoted seq marks row =
    record {
      min_seq = row.min_seq;
      pages = filter (λ l. not (has_mark marks l)) row.pages ++ map (at_seq seq) (filter (has_mark marks) row.pages);
    }

abbrev pub aged_row : ℕ → List Bool → Row → Row
aged_row max_seq marks row = promoted (max_seq + 1) marks (at_most_three max_seq row)

-- a new youngest generation, of the marked pages, which lose their marks; the other pages keep their places. (Excludes pages merged behind the next generation's, and marks of other groups cleared.)
abbrev pub aged : Seen → Seen
aged seen =
    record {
      gens = record { max_seq = seen.gens.max_seq + 1; anon = aged_row seen.gens.max_seq seen.marks seen.gens.anon; file = aged_row seen.gens.max_seq seen.marks seen.gens.file };
      marks = cleared (listed seen.gens) seen.marks;
    }
