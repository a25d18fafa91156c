-- Which page is evicted next (mm/multigen_lru: "Eviction").
use Rattle.std.specs.Prelude.{◌≡◌, ℕ, zero, suc, ◌+◌, ◌-◌, ◌<◌, ◌&&◌, not, min, nat_lt, Bool, true, false, MatchBool, if◌then◌else◌, List, [], ◌∷◌, ◌++◌, filter, slice_set, Option, Some, None}
use Rattle.std.specs.List.{list_any}
use Rattle.machine.specs.Generations.{Listed, Row, Gens, kind_of, added, isolated}
use Rattle.machine.specs.Aging.{Seen, has_mark, aged}

-- ---- the old pages

abbrev pub is_old : ℕ → Listed → Bool
is_old max_seq l = nat_lt (l.seq + 1) max_seq

-- those that are not of the two youngest generations
abbrev pub old_of : ℕ → List Listed → List Listed
old_of max_seq pages = filter (is_old max_seq) pages

-- an old page of a file is there that is not marked. (Excludes memory, which has to be written out first, and a file that is in use.)
abbrev pub has_old_file : Seen → Bool
has_old_file seen = list_any (λ l. not (has_mark seen.marks l)) (old_of seen.gens.max_seq seen.gens.file.pages)

-- the pages before the first that fails the test, and those from it on
abbrev pub front_run : (Listed → Bool) → List Listed → List Listed
front_run test [] = []
front_run test (l ∷ ls) = if test l then l ∷ front_run test ls else []

abbrev pub behind_run : (Listed → Bool) → List Listed → List Listed
behind_run test [] = []
behind_run test (l ∷ ls) = if test l then behind_run test ls else l ∷ ls

abbrev pub is_below : ℕ → Listed → Bool
is_below seq l = nat_lt l.seq seq

-- two rows as one, by rising seq: where both have a seq, the file pages come first
abbrev pub in_turn : List Listed → List Listed → List Listed
in_turn [] anon = anon
in_turn (f ∷ file) anon = front_run (is_below f.seq) anon ++ f ∷ in_turn file (behind_run (is_below f.seq) anon)

-- anonymous pages may be taken where a swap block is free, since they go there
abbrev pub usable_anon : Bool → Gens → List Listed
usable_anon swap_free gens = if swap_free then gens.anon.pages else []

abbrev pub is_nil : List Listed → Bool
is_nil [] = true
is_nil (l ∷ ls) = false

abbrev pub has_usable : Bool → Gens → Bool
has_usable swap_free gens = not (is_nil gens.file.pages && is_nil (usable_anon swap_free gens))

-- the usable pages that are old, in the order in which they are looked at
abbrev pub old_pages : Bool → Gens → List Listed
old_pages swap_free gens = in_turn (old_of gens.max_seq gens.file.pages) (old_of gens.max_seq (usable_anon swap_free gens))

-- ---- the search for a page

-- a page goes to the tail of its type's youngest list, unmarked
abbrev pub to_tail : ℕ → Seen → Seen
to_tail p seen =
    record {
      gens = added p (kind_of seen.gens p) seen.gens.max_seq (isolated p seen.gens);
      marks = slice_set seen.marks p false;
    }

-- so go these pages, one after another
abbrev pub sent_back : List Listed → Seen → Seen
sent_back [] seen = seen
sent_back (l ∷ ls) seen = sent_back ls (to_tail l.page seen)

-- so go the old pages up to the first that is not marked. (Excludes the front page taken though it is marked.)
abbrev pub passed_by : Bool → Seen → Seen
passed_by swap_free seen = sent_back (front_run (has_mark seen.marks) (old_pages swap_free seen.gens)) seen

abbrev pub least_seq : ℕ → List Listed → ℕ
least_seq cap [] = cap
least_seq cap (l ∷ ls) = min cap l.seq

abbrev pub settled_row : ℕ → Row → Row
settled_row max_seq row = record { min_seq = least_seq (max_seq - 1) row.pages; pages = row.pages }

-- no empty generation stays oldest, while two remain
abbrev pub settled_gens : Gens → Gens
settled_gens gens = record { max_seq = gens.max_seq; anon = settled_row gens.max_seq gens.anon; file = settled_row gens.max_seq gens.file }

abbrev pub settled : Seen → Seen
settled seen = record { gens = settled_gens seen.gens; marks = seen.marks }

-- aged so many times, settled before each
abbrev pub aged_times : ℕ → Seen → Seen
aged_times zero seen = seen
aged_times (suc n) seen = aged_times n (aged (settled seen))

-- aged just until a usable page is old: the first such is the answer
pub record AgesToOld (swap_free : Bool) (from : Seen) (answer : Option ℕ) (to : Seen) : Type 0 where
  pub times : ℕ
  pub none_before : (n : ℕ) → n < times → old_pages swap_free (aged_times n from).gens ≡ []
  pub first : Listed
  pub others : List Listed
  pub old : old_pages swap_free (aged_times times from).gens ≡ first ∷ others
  pub answers : answer ≡ Some first.page
  pub leaves : to ≡ settled (aged_times times from)

-- the page to be evicted next, and the lists after the search for it. It stands on its list still
abbrev pub Picks : Bool → Seen → Option ℕ → Seen → Type 0
Picks swap_free from answer to = MatchBool (has_usable swap_free from.gens) (AgesToOld swap_free (passed_by swap_free from) answer to) ((answer ≡ None) × (to ≡ from))
