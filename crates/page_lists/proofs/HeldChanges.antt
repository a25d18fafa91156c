-- How the lists of held pages go on where one page changes, and over two changes.
use Rattle.std.proofs.Common.{◌≡◌, ◌≢◌, inl, inr, ℕ, zero, suc, ◌<◌, ◌≤◌, ◌==◌, ◌&&◌, ◌||◌, not, nat_le, nat_lt, Bool, true, false, cond, eqb, List, [], ◌∷◌, ◌++◌, length, map, filter, set, Option, Some, None, refl, sym, ap, ◌∙◌, subst, arith, length-set}
use Rattle.std.specs.List.{AllByRecursion}
use Rattle.std.proofs.Math.ListN.{get_or-map}
use Rattle.std.proofs.lemmas.Bool.{and_right, eq-eqb, eqb-true, ne_eqb, true≢false}
use Rattle.std.proofs.lemmas.Bool.Decides.{nat_tests}
use Rattle.std.proofs.lemmas.List.{map-set, set-get_or, get_or-set_same, get_or-set_other}
use Rattle.std.proofs.lemmas.List.Elements.{filter-append}
use Rattle.machine.specs.declared.record.Kind.{Kind}
use Rattle.machine.specs.declared.record.Kind.TheVariants.{Anon, File}
use Rattle.machine.specs.Slots.{there_and}
use Rattle.machine.specs.Pages.{Page, Pages, page_at, is_held, is_held_in, is_number}
use Rattle.machine.specs.Generations.{Listed, Row, Gens, new_gens, row_of, has_page, is_listed, without, entered, added, isolated, gens_at, with_gens, IsRising}
use Rattle.machine.specs.Aging.{is_marked}
use Rattle.machine.specs.Lists.{HeldLists, ListsHeld, AreGenerations, is_fresh, kept_row, kept_gens, Generation, Youngest, SecondYoungest, ByType, seq_in, kind_at, with_page, with_fresh, hits_at, hits_at_entry, hits_kept, GoesOn}
use Rattle.machine.proofs.TreeLemmas.{eq_cases}
use Rattle.page_lists.proofs.ListedLemmas.{each-has, each-weaker, none-in, rising-filter}
use Rattle.page_lists.proofs.AgingLemmas.{clear-here}
use Rattle.page_lists.proofs.HeldLemmas.{of-held, hits-stay}

-- ---- filters

filter-alike : (f h : Listed → Bool) (xs : List Listed) → AllByRecursion (λ l. f l ≡ h l) xs → filter f xs ≡ filter h xs
filter-alike f h [] all = refl
filter-alike f h (x ∷ xs) all = ap (λ b. cond b (x ∷ filter f xs) (filter f xs)) all.0 ∙ ap (λ rest. cond (h x) (x ∷ rest) rest) (filter-alike f h xs all.1)

filter-all : (f : Listed → Bool) (xs : List Listed) → AllByRecursion (λ l. f l ≡ true) xs → filter f xs ≡ xs
filter-all f [] all = refl
filter-all f (x ∷ xs) all = ap (λ b. cond b (x ∷ filter f xs) (filter f xs)) all.0 ∙ ap (λ rest. x ∷ rest) (filter-all f xs all.1)

-- a filter with a test that passes less leaves no more than that test
filter-filter : (f h : Listed → Bool) → ((l : Listed) → f l ≡ true → h l ≡ true) → (xs : List Listed) → filter f (filter h xs) ≡ filter f xs
filter-filter f h less [] = refl
filter-filter f h less (x ∷ xs) = by_tests (filter-filter f h less xs) (h x) (f x) refl refl
  where
    by_tests : filter f (filter h xs) ≡ filter f xs → (b c : Bool) → h x ≡ b → f x ≡ c → filter f (cond b (x ∷ filter h xs) (filter h xs)) ≡ cond (f x) (x ∷ filter f xs) (filter f xs)
    by_tests rest true c hx fx = ap (λ l. cond (f x) (x ∷ l) l) rest
    by_tests rest false true hx fx = let also = less x fx in absurd (true≢false (sym also ∙ hx))
    by_tests rest false false hx fx = rest ∙ sym (ap (λ b. cond b (x ∷ filter f xs) (filter f xs)) fx)

-- two filters in either order
filter-swap : (f h : Listed → Bool) (xs : List Listed) → filter f (filter h xs) ≡ filter h (filter f xs)
filter-swap f h [] = refl
filter-swap f h (x ∷ xs) = by_tests (filter-swap f h xs) (h x) (f x) refl refl
  where
    by_tests : filter f (filter h xs) ≡ filter h (filter f xs) → (b c : Bool) → h x ≡ b → f x ≡ c → filter f (cond b (x ∷ filter h xs) (filter h xs)) ≡ filter h (cond c (x ∷ filter f xs) (filter f xs))
    by_tests rest true true hx fx =
        ap (λ b. cond b (x ∷ filter f (filter h xs)) (filter f (filter h xs))) fx ∙ ap (λ l. x ∷ l) rest ∙ sym (ap (λ b. cond b (x ∷ filter h (filter f xs)) (filter h (filter f xs))) hx)
    by_tests rest true false hx fx = ap (λ b. cond b (x ∷ filter f (filter h xs)) (filter f (filter h xs))) fx ∙ rest
    by_tests rest false true hx fx = rest ∙ sym (ap (λ b. cond b (x ∷ filter h (filter f xs)) (filter h (filter f xs))) hx)
    by_tests rest false false hx fx = rest

-- ---- rising rows

-- above a number there are only such
all-above : (seq low : ℕ) (xs : List Listed) → seq < low → AllByRecursion (λ k. low ≤ k.seq) xs → (filter (λ l. nat_le l.seq seq) xs ≡ []) × (filter (λ l. nat_lt seq l.seq) xs ≡ xs)
all-above seq low [] lt all = (refl, refl)
all-above seq low (x ∷ xs) lt all =
    let rest = all-above seq low xs lt all.1 in
    let le = all.0 in
    let above : nat_lt seq x.seq ≡ true = grind (arith, nat_tests, lt, le) in
    let over : nat_le x.seq seq ≡ false = grind (arith, nat_tests, lt, le) in
    (ap (λ b. cond b (x ∷ filter (λ l. nat_le l.seq seq) xs) (filter (λ l. nat_le l.seq seq) xs)) over ∙ rest.0, ap (λ b. cond b (x ∷ filter (λ l. nat_lt seq l.seq) xs) (filter (λ l. nat_lt seq l.seq) xs)) above ∙ ap (λ ys. x ∷ ys) rest.1)

-- those up to a number, and then those above it
rising-split : (seq : ℕ) (xs : List Listed) → IsRising xs → filter (λ l. nat_le l.seq seq) xs ++ filter (λ l. nat_lt seq l.seq) xs ≡ xs
rising-split seq [] rising = refl
rising-split seq (x ∷ xs) rising = by_order (rising-split seq xs rising.1) (nat_le x.seq seq) refl
  where
    by_order : filter (λ l. nat_le l.seq seq) xs ++ filter (λ l. nat_lt seq l.seq) xs ≡ xs → (b : Bool) → nat_le x.seq seq ≡ b → cond b (x ∷ filter (λ l. nat_le l.seq seq) xs) (filter (λ l. nat_le l.seq seq) xs) ++ filter (λ l. nat_lt seq l.seq) (x ∷ xs) ≡ x ∷ xs
    by_order split true e =
        let under : nat_lt seq x.seq ≡ false = grind (arith, nat_tests, e) in
        ap (λ b. x ∷ filter (λ l. nat_le l.seq seq) xs ++ cond b (x ∷ filter (λ l. nat_lt seq l.seq) xs) (filter (λ l. nat_lt seq l.seq) xs)) under ∙ ap (λ ys. x ∷ ys) split
    by_order split false e =
        let above : nat_lt seq x.seq ≡ true = grind (arith, nat_tests, e) in
        let lt : seq < x.seq = grind (arith, nat_tests, e) in
        let rest = all-above seq x.seq xs lt rising.0 in
        ap (λ ys. ys ++ filter (λ l. nat_lt seq l.seq) (x ∷ xs)) rest.0 ∙ ap (λ b. cond b (x ∷ filter (λ l. nat_lt seq l.seq) xs) (filter (λ l. nat_lt seq l.seq) xs)) above ∙ ap (λ ys. x ∷ ys) rest.1

-- ---- lists of groups

map-same : (f : Gens → Gens) (groups : List Gens) → ((g : ℕ) → f (gens_at groups g) ≡ gens_at groups g) → map f groups ≡ groups
map-same f [] same = refl
map-same f (x ∷ xs) same = ap (λ y. y ∷ map f xs) (same 0) ∙ ap (λ ys. x ∷ ys) (map-same f xs (λ g. same (suc g)))

-- all but one stay
map-at : (f : Gens → Gens) (groups : List Gens) (g : ℕ) → ((h : ℕ) → h ≢ g → f (gens_at groups h) ≡ gens_at groups h) → map f groups ≡ with_gens groups g (f (gens_at groups g))
map-at f [] g same = refl
map-at f (x ∷ xs) zero same = ap (λ ys. f x ∷ ys) (map-same f xs (λ g. same (suc g) (λ e. absurd cc)))
map-at f (x ∷ xs) (suc g) same = ap (λ y. y ∷ map f xs) (same 0 (λ e. absurd cc)) ∙ ap (λ ys. x ∷ ys) (map-at f xs g (λ h ne. same (suc h) (λ e. ne (let less : h ≡ g = cc in less))))

map-both : (f h k : Gens → Gens) → ((x : Gens) → f (h x) ≡ k x) → (groups : List Gens) → map f (map h groups) ≡ map k groups
map-both f h k same [] = refl
map-both f h k same (x ∷ xs) = ap (λ y. y ∷ map f (map h xs)) (same x) ∙ ap (λ ys. k x ∷ ys) (map-both f h k same xs)

-- ---- the pages of a row

module _ (pages : Pages) (held : HeldLists) (lists : ListsHeld pages held) where
  -- what a row has is held
  row-held : (g : ℕ) (kind : Kind) → AllByRecursion (λ l. is_held_in pages l.page ≡ true) (row_of kind (gens_at held.groups g)).pages
  row-held g kind =
      each-weaker (λ l. has_page l.page (row_of kind (gens_at held.groups g)).pages ≡ true) (λ l. is_held_in pages l.page ≡ true)
      (λ l h. of-held g kind (page_at pages l.page) (sym (lists.rows g kind l.page) ∙ h)) (row_of kind (gens_at held.groups g)).pages (each-has (row_of kind (gens_at held.groups g)).pages)

  -- a listed page is held
  pub listed-held : (g p : ℕ) → is_listed (gens_at held.groups g) p ≡ true → is_held_in pages p ≡ true
  listed-held g p h = by_row (has_page p (gens_at held.groups g).file.pages) (has_page p (gens_at held.groups g).anon.pages) refl refl h
    where
      by_row : (f a : Bool) → has_page p (gens_at held.groups g).file.pages ≡ f → has_page p (gens_at held.groups g).anon.pages ≡ a → (f || a) ≡ true → is_held_in pages p ≡ true
      by_row true a ef ea e = of-held g File (page_at pages p) (sym (lists.rows g File p) ∙ ef)
      by_row false true ef ea e = of-held g Anon (page_at pages p) (sym (lists.rows g Anon p) ∙ ea)
      by_row false false ef ea e = absurd (true≢false (sym e))

  -- a page that is not held is on no list
  pub unheld-unlisted : (p : ℕ) → is_held_in pages p ≡ false → (g : ℕ) → is_listed (gens_at held.groups g) p ≡ false
  unheld-unlisted p gone g = by_listed (is_listed (gens_at held.groups g) p) refl
    where
      by_listed : (b : Bool) → is_listed (gens_at held.groups g) p ≡ b → b ≡ false
      by_listed true e = absurd (true≢false (sym (listed-held g p e) ∙ gone))
      by_listed false e = refl

-- ---- what stays

module _ (after : Pages) where
  kept-row-all : (row : Row) → AllByRecursion (λ l. is_held_in after l.page ≡ true) row.pages → kept_row after row ≡ row
  kept-row-all row all = ap (λ (ps : List Listed). let r : Row = record { min_seq = row.min_seq; pages = ps } in r) (filter-all (λ l. is_held_in after l.page) row.pages all)

  kept-all : (gens : Gens) → ((kind : Kind) → AllByRecursion (λ l. is_held_in after l.page ≡ true) (row_of kind gens).pages) → kept_gens after gens ≡ gens
  kept-all gens all =
      ap (λ (r : Row). let x : Gens = record { max_seq = gens.max_seq; anon = r; file = kept_row after gens.file } in x) (kept-row-all gens.anon (all Anon))
      ∙ ap (λ (r : Row). let x : Gens = record { max_seq = gens.max_seq; anon = gens.anon; file = r } in x) (kept-row-all gens.file (all File))

  -- where all go but one, that is as if it is taken out
  kept-out : (p : ℕ) (gens : Gens) → ((kind : Kind) → AllByRecursion (λ l. is_held_in after l.page ≡ not (l.page == p)) (row_of kind gens).pages) → kept_gens after gens ≡ isolated p gens
  kept-out p gens all =
      ap (λ (ps : List Listed). let x : Gens = record { max_seq = gens.max_seq; anon = record { min_seq = gens.anon.min_seq; pages = ps }; file = kept_row after gens.file } in x) (filter-alike (λ l. is_held_in after l.page) (λ l. not (l.page == p)) gens.anon.pages (all Anon))
      ∙ ap (λ (ps : List Listed). let x : Gens = record { max_seq = gens.max_seq; anon = record { min_seq = gens.anon.min_seq; pages = without p gens.anon.pages }; file = record { min_seq = gens.file.min_seq; pages = ps } } in x) (filter-alike (λ l. is_held_in after l.page) (λ l. not (l.page == p)) gens.file.pages (all File))

  -- a page that enters and stays
  kept-entered : (p seq : ℕ) (xs : List Listed) → is_held_in after p ≡ true → filter (λ l. is_held_in after l.page) (entered p seq xs) ≡ entered p seq (filter (λ l. is_held_in after l.page) xs)
  kept-entered p seq xs here =
      filter-append (λ l. is_held_in after l.page) (filter (λ l. nat_le l.seq seq) xs) (record { page = p; seq = seq } ∷ filter (λ l. nat_lt seq l.seq) xs)
      ∙ ap (λ b. filter (λ l. is_held_in after l.page) (filter (λ l. nat_le l.seq seq) xs) ++ cond b (record { page = p; seq = seq } ∷ filter (λ l. is_held_in after l.page) (filter (λ l. nat_lt seq l.seq) xs)) (filter (λ l. is_held_in after l.page) (filter (λ l. nat_lt seq l.seq) xs))) here
      ∙ ap (λ ys. ys ++ record { page = p; seq = seq } ∷ filter (λ l. is_held_in after l.page) (filter (λ l. nat_lt seq l.seq) xs)) (filter-swap (λ l. is_held_in after l.page) (λ l. nat_le l.seq seq) xs)
      ∙ ap (λ ys. filter (λ l. nat_le l.seq seq) (filter (λ l. is_held_in after l.page) xs) ++ record { page = p; seq = seq } ∷ ys) (filter-swap (λ l. is_held_in after l.page) (λ l. nat_lt seq l.seq) xs)

  kept-added : (p : ℕ) (kind : Kind) (seq : ℕ) (x : Gens) → is_held_in after p ≡ true → kept_gens after (added p kind seq x) ≡ added p kind seq (kept_gens after x)
  kept-added p Anon seq x here =
      ap (λ (ps : List Listed). let y : Gens = record { max_seq = x.max_seq; anon = record { min_seq = x.anon.min_seq; pages = ps }; file = kept_row after x.file } in y) (kept-entered p seq x.anon.pages here)
  kept-added p File seq x here =
      ap (λ (ps : List Listed). let y : Gens = record { max_seq = x.max_seq; anon = kept_row after x.anon; file = record { min_seq = x.file.min_seq; pages = ps } } in y) (kept-entered p seq x.file.pages here)

  -- a page that enters and does not stay
  gone-entered : (p seq : ℕ) (xs : List Listed) → is_held_in after p ≡ false → IsRising xs → filter (λ l. is_held_in after l.page) (entered p seq xs) ≡ filter (λ l. is_held_in after l.page) xs
  gone-entered p seq xs gone rising =
      filter-append (λ l. is_held_in after l.page) (filter (λ l. nat_le l.seq seq) xs) (record { page = p; seq = seq } ∷ filter (λ l. nat_lt seq l.seq) xs)
      ∙ ap (λ b. filter (λ l. is_held_in after l.page) (filter (λ l. nat_le l.seq seq) xs) ++ cond b (record { page = p; seq = seq } ∷ filter (λ l. is_held_in after l.page) (filter (λ l. nat_lt seq l.seq) xs)) (filter (λ l. is_held_in after l.page) (filter (λ l. nat_lt seq l.seq) xs))) gone
      ∙ sym (filter-append (λ l. is_held_in after l.page) (filter (λ l. nat_le l.seq seq) xs) (filter (λ l. nat_lt seq l.seq) xs))
      ∙ ap (filter (λ l. is_held_in after l.page)) (rising-split seq xs rising)

  gone-added : (p : ℕ) (kind : Kind) (seq : ℕ) (x : Gens) → is_held_in after p ≡ false → ((k : Kind) → IsRising (row_of k x).pages) → kept_gens after (added p kind seq x) ≡ kept_gens after x
  gone-added p Anon seq x gone rising =
      ap (λ (ps : List Listed). let y : Gens = record { max_seq = x.max_seq; anon = record { min_seq = x.anon.min_seq; pages = ps }; file = kept_row after x.file } in y) (gone-entered p seq x.anon.pages gone (rising Anon))
  gone-added p File seq x gone rising =
      ap (λ (ps : List Listed). let y : Gens = record { max_seq = x.max_seq; anon = kept_row after x.anon; file = record { min_seq = x.file.min_seq; pages = ps } } in y) (gone-entered p seq x.file.pages gone (rising File))

-- ---- one change

none_fresh : (b c : Bool) → b ≡ c → false ≡ (b && not c)
none_fresh true true e = refl
none_fresh false false e = refl
none_fresh true false e = absurd (true≢false e)
none_fresh false true e = refl

-- a mark that stands stays where its page stays
mark-stays : (a b m : Bool) → (m ≡ true → a ≡ true) → (m ≡ true → b ≡ true) → m ≡ (a && b && m)
mark-stays true true m was is = refl
mark-stays a b false was is = sym (and_right (a && b) false refl)
mark-stays false b true was is = absurd (true≢false (sym (was refl)))
mark-stays true false true was is = absurd (true≢false (sym (is refl)))

-- no hit counts where the count was ended
none-here : (hits : List ℕ) (p : ℕ) → hits_at (set hits p 0) p ≡ 0
none-here [] p = refl
none-here (n ∷ hits) zero = refl
none-here (n ∷ hits) (suc p) = none-here hits p

-- the same pages are held
pub goes-on-same : (generation : Generation) (before after : Pages) (held : HeldLists) → ListsHeld before held → ((q : ℕ) → is_held_in after q ≡ is_held_in before q) → GoesOn generation before held after held
goes-on-same generation before after held lists alike =
    record {
      fresh = None;
      which = λ q. none_fresh (is_held_in after q) (is_held_in before q) (alike q);
      groups = sym (map-same (kept_gens after) held.groups (λ g. kept-all after (gens_at held.groups g) (λ kind. each-weaker (λ l. is_held_in before l.page ≡ true) (λ l. is_held_in after l.page ≡ true) (λ l h. alike l.page ∙ h) (row_of kind (gens_at held.groups g)).pages (row-held before held lists g kind))));
      size = refl;
      marks = λ q. mark-stays (is_held_in before q) (is_held_in after q) (is_marked held.marks q) (lists.marked q) (λ h. alike q ∙ lists.marked q h);
      counts = refl;
      hits = λ q. hits-stay generation (is_held_in before q) (is_held_in after q) (hits_at held.hits q) (alike q) (lists.counted q);
    }

module _ (generation : Generation) (before after : Pages) (held : HeldLists) (lists : ListsHeld before held) (p : ℕ) (others : (q : ℕ) → q ≢ p → is_held_in after q ≡ is_held_in before q) where
  -- a page of a group left its list with its mark
  pub goes-on-out : (g : ℕ) → is_listed (gens_at held.groups g) p ≡ true → ((h : ℕ) → h ≢ g → is_listed (gens_at held.groups h) p ≡ false) → is_held_in after p ≡ false
      → GoesOn generation before held after (let h : HeldLists = record { groups = with_gens held.groups g (isolated p (gens_at held.groups g)); marks = set held.marks p false; hits = set held.hits p 0 } in h)
  goes-on-out g here elsewhere gone =
      record {
        fresh = None;
        which = λ q. elim (eq_cases q p) [
          | inl same ↦ sym (ap (λ b. b && not (is_held_in before q)) (ap (is_held_in after) same ∙ gone))
          | inr other ↦ none_fresh (is_held_in after q) (is_held_in before q) (others q other)
        ];
        groups = sym (map-at (kept_gens after) held.groups g (λ h ne. kept-all after (gens_at held.groups h) (λ kind. stays h kind ne)) ∙ ap (with_gens held.groups g) (kept-out after p (gens_at held.groups g) leaves));
        size = length-set held.marks p false;
        marks = λ q. elim (eq_cases q p) [
          | inl same ↦ ap (is_marked (set held.marks p false)) same ∙ clear-here held.marks p ∙ sym (ap (λ b. is_held_in before q && b && is_marked held.marks q) (ap (is_held_in after) same ∙ gone) ∙ ap (λ b. b && is_marked held.marks q) (and_right (is_held_in before q) false refl))
          | inr other ↦ get_or-set_other held.marks p q false false other ∙ mark-stays (is_held_in before q) (is_held_in after q) (is_marked held.marks q) (lists.marked q) (λ h. others q other ∙ lists.marked q h)
        ];
        counts = length-set held.hits p 0;
        hits = λ q. elim (eq_cases q p) [
          | inl same ↦ ap (hits_at (set held.hits p 0)) same ∙ none-here held.hits p ∙ sym (ap (λ b. hits_kept generation (is_held_in before q) b (hits_at held.hits q)) (ap (is_held_in after) same ∙ gone))
          | inr other ↦ get_or-set_other held.hits p q 0 0 other ∙ hits-stay generation (is_held_in before q) (is_held_in after q) (hits_at held.hits q) (others q other) (lists.counted q)
        ];
      }
    where
      or_none : (a b : Bool) → (a || b) ≡ false → (a ≡ false) × (b ≡ false)
      or_none false false e = (refl, refl)
      or_none false true e = absurd (true≢false e)
      or_none true b e = absurd (true≢false e)

      row-has : (h : ℕ) (kind : Kind) → is_listed (gens_at held.groups h) p ≡ false → has_page p (row_of kind (gens_at held.groups h)).pages ≡ false
      row-has h Anon none = (or_none (has_page p (gens_at held.groups h).file.pages) (has_page p (gens_at held.groups h).anon.pages) none).1
      row-has h File none = (or_none (has_page p (gens_at held.groups h).file.pages) (has_page p (gens_at held.groups h).anon.pages) none).0

      leaves : (kind : Kind) → AllByRecursion (λ l. is_held_in after l.page ≡ not (l.page == p)) (row_of kind (gens_at held.groups g)).pages
      leaves kind =
          each-weaker (λ l. is_held_in before l.page ≡ true) (λ l. is_held_in after l.page ≡ not (l.page == p))
          (λ l h. elim (eq_cases l.page p) [
            | inl same ↦ ap (is_held_in after) same ∙ gone ∙ sym (ap not (eq-eqb l.page p same))
            | inr other ↦ others l.page other ∙ h ∙ sym (ap not (ne_eqb l.page p other))
          ])
          (row_of kind (gens_at held.groups g)).pages (row-held before held lists g kind)

      stays : (h : ℕ) (kind : Kind) → h ≢ g → AllByRecursion (λ l. is_held_in after l.page ≡ true) (row_of kind (gens_at held.groups h)).pages
      stays h kind ne = each-two (row_of kind (gens_at held.groups h)).pages (row-held before held lists h kind) (none-in p (row_of kind (gens_at held.groups h)).pages (row-has h kind (elsewhere h ne)))
        where
          each-two : (xs : List Listed) → AllByRecursion (λ l. is_held_in before l.page ≡ true) xs → AllByRecursion (λ l. eqb l.page p ≡ false) xs → AllByRecursion (λ l. is_held_in after l.page ≡ true) xs
          each-two [] h k = tt
          each-two (x ∷ xs) h k = (others x.page (λ e. true≢false (sym (eq-eqb x.page p e) ∙ k.0)) ∙ h.0, each-two xs h.1 k.1)

  -- a page came to a group's list
  pub goes-on-in : (page : Page) → page_at after p ≡ Some page → is_held page ≡ true → is_held_in before p ≡ false → p < length held.hits
      → GoesOn generation before held after
      (let h : HeldLists = record { groups = with_gens held.groups page.group (added p (kind_at page.content) (seq_in generation (kind_at page.content) (gens_at held.groups page.group)) (gens_at held.groups page.group)); marks = held.marks; hits = set held.hits p (hits_at_entry generation) } in h)
  goes-on-in page there here absent within =
      record {
        fresh = Some p;
        which = λ q. elim (eq_cases q p) [
          | inl same ↦ eq-eqb p q (sym same) ∙ sym (ap (λ b. b && not (is_held_in before q)) (ap (is_held_in after) same ∙ ap (there_and is_held) there ∙ here) ∙ ap not (ap (is_held_in before) same ∙ absent))
          | inr other ↦ ne_eqb p q (λ e. other (sym e)) ∙ none_fresh (is_held_in after q) (is_held_in before q) (others q other)
        ];
        groups = ap (with_page generation p (Some page)) (sym all) ∙ sym (ap (λ (o : Option Page). with_page generation p o (map (kept_gens after) held.groups)) there);
        size = refl;
        marks = λ q. mark-stays (is_held_in before q) (is_held_in after q) (is_marked held.marks q) (lists.marked q) (λ h. others q (differs q (lists.marked q h)) ∙ lists.marked q h);
        counts = length-set held.hits p (hits_at_entry generation);
        hits = λ q. elim (eq_cases q p) [
          | inl same ↦ (
              ap (hits_at (set held.hits p (hits_at_entry generation))) same ∙ get_or-set_same held.hits p (hits_at_entry generation) 0 within
              ∙ sym (ap (λ b. hits_kept generation b (is_held_in after q) (hits_at held.hits q)) (ap (is_held_in before) same ∙ absent) ∙ ap (λ b. hits_kept generation false b (hits_at held.hits q)) (ap (is_held_in after) same ∙ ap (there_and is_held) there ∙ here))
              )
          | inr other ↦ get_or-set_other held.hits p q (hits_at_entry generation) 0 other ∙ hits-stay generation (is_held_in before q) (is_held_in after q) (hits_at held.hits q) (others q other) (lists.counted q)
        ];
      }
    where
      differs : (q : ℕ) → is_held_in before q ≡ true → q ≢ p
      differs q h same = true≢false (sym h ∙ ap (is_held_in before) same ∙ absent)

      all : map (kept_gens after) held.groups ≡ held.groups
      all = map-same (kept_gens after) held.groups (λ g. kept-all after (gens_at held.groups g) (λ kind. each-weaker (λ l. is_held_in before l.page ≡ true) (λ l. is_held_in after l.page ≡ true) (λ l h. others l.page (differs l.page h) ∙ h) (row_of kind (gens_at held.groups g)).pages (row-held before held lists g kind)))

-- ---- two changes

-- what comes only where it stood before is not fresh
old_already : (b c : Bool) → (c ≡ true → b ≡ true) → (c && not b) ≡ false
old_already true true h = refl
old_already true false h = refl
old_already false true h = absurd (true≢false (sym (h refl)))
old_already false false h = refl

no-number : (o : Option ℕ) → ((q : ℕ) → is_number o q ≡ false) → o ≡ None
no-number None none = refl
no-number (Some p) none = absurd (true≢false (sym (eq-eqb p p refl) ∙ none p))

-- the number, if it passes
abbrev if_passes : (ℕ → Bool) → Option ℕ → Option ℕ
if_passes test None = None
if_passes test (Some p) = cond (test p) (Some p) None

passing : (test : ℕ → Bool) (o : Option ℕ) (q : ℕ) → is_number (if_passes test o) q ≡ (is_number o q && test q)
passing test None q = refl
passing test (Some p) q = by_same (p == q) refl
  where
    with_true : (b : Bool) → b ≡ (b && true)
    with_true true = refl
    with_true false = refl

    by_test : (b : Bool) → is_number (cond b (Some p) None) q ≡ ((p == q) && b)
    by_test true = with_true (p == q)
    by_test false = sym (and_right (p == q) false refl)

    by_same : (b : Bool) → (p == q) ≡ b → is_number (cond (test p) (Some p) None) q ≡ ((p == q) && test q)
    by_same true same = by_test (test p) ∙ ap (λ b. (p == q) && b) (ap test (eqb-true p q same))
    by_same false other = by_test (test p) ∙ ap (λ b. b && test p) other ∙ sym (ap (λ b. b && test q) other)

module _ (generation next : Generation) (before between after : Pages) (xs ys zs : HeldLists) (first : GoesOn generation before xs between ys) (second : GoesOn next between ys after zs) where
  -- where the second brings no page, and changes none that stays
  pub goes-on-then : AreGenerations xs → ((p : ℕ) → is_held_in after p ≡ true → page_at after p ≡ page_at between p) → GoesOn generation before xs after zs
  goes-on-then sound stays =
      record {
        fresh = if_passes (is_held_in after) first.fresh;
        which = λ p. passing (is_held_in after) first.fresh p ∙ ap (λ b. b && is_held_in after p) (first.which p) ∙ fresh_still (is_held_in before p) (is_held_in between p) (is_held_in after p) (less p);
        groups = second.groups ∙ ap (λ (o : Option ℕ). with_fresh next after o (map (kept_gens after) ys.groups)) (no-number second.fresh none) ∙ ap (map (kept_gens after)) first.groups ∙ by_fresh first.fresh first.which;
        size = second.size ∙ first.size;
        marks = λ p. second.marks p ∙ ap (λ m. is_held_in between p && is_held_in after p && m) (first.marks p) ∙ both_stay (is_held_in before p) (is_held_in between p) (is_held_in after p) (is_marked xs.marks p) (less p);
        counts = second.counts ∙ first.counts;
        hits = λ p. second.hits p ∙ ap (hits_kept next (is_held_in between p) (is_held_in after p)) (first.hits p) ∙ both_kept (is_held_in before p) (is_held_in between p) (is_held_in after p) (hits_at xs.hits p) (less p);
      }
    where
      both_kept : (a b c : Bool) (hits : ℕ) → (c ≡ true → b ≡ true) → hits_kept next b c (hits_kept generation a b hits) ≡ hits_kept generation a c hits
      both_kept a b false hits h = refl
      both_kept a true true hits h = refl
      both_kept a false true hits h = absurd (true≢false (sym (h refl)))

      less : (p : ℕ) → is_held_in after p ≡ true → is_held_in between p ≡ true
      less p h = sym (ap (there_and is_held) (stays p h)) ∙ h

      none : (q : ℕ) → is_number second.fresh q ≡ false
      none q = second.which q ∙ old_already (is_held_in between q) (is_held_in after q) (less q)

      fresh_still : (a b c : Bool) → (c ≡ true → b ≡ true) → ((b && not a) && c) ≡ (c && not a)
      fresh_still true true true h = refl
      fresh_still true true false h = refl
      fresh_still true false true h = refl
      fresh_still true false false h = refl
      fresh_still false true true h = refl
      fresh_still false true false h = refl
      fresh_still false false true h = absurd (true≢false (sym (h refl)))
      fresh_still false false false h = refl

      both_stay : (a b c m : Bool) → (c ≡ true → b ≡ true) → (b && c && (a && b && m)) ≡ (a && c && m)
      both_stay true true true m h = refl
      both_stay false true true m h = refl
      both_stay a b false m h = ap (λ x. x && (a && b && m)) (and_right b false refl) ∙ sym (ap (λ x. x && m) (and_right a false refl))
      both_stay a false true m h = absurd (true≢false (sym (h refl)))

      kept-kept : (x : Gens) → kept_gens after (kept_gens between x) ≡ kept_gens after x
      kept-kept x =
          ap (λ (ps : List Listed). let y : Gens = record { max_seq = x.max_seq; anon = record { min_seq = x.anon.min_seq; pages = ps }; file = kept_row after (kept_row between x.file) } in y) (filter-filter (λ l. is_held_in after l.page) (λ l. is_held_in between l.page) (λ l. less l.page) x.anon.pages)
          ∙ ap (λ (ps : List Listed). let y : Gens = record { max_seq = x.max_seq; anon = kept_row after x.anon; file = record { min_seq = x.file.min_seq; pages = ps } } in y) (filter-filter (λ l. is_held_in after l.page) (λ l. is_held_in between l.page) (λ l. less l.page) x.file.pages)

      -- the groups after the first change's leavings, and after both
      stayed : List Gens
      stayed = map (kept_gens between) xs.groups

      kept : List Gens
      kept = map (kept_gens after) xs.groups

      kept-stayed : map (kept_gens after) stayed ≡ kept
      kept-stayed = map-both (kept_gens after) (kept_gens between) (kept_gens after) kept-kept xs.groups

      kept-at : (g : ℕ) → gens_at kept g ≡ kept_gens after (gens_at stayed g)
      kept-at g = sym (ap (λ (gs : List Gens). gens_at gs g) kept-stayed) ∙ get_or-map (kept_gens after) stayed g new_gens

      rises : (g : ℕ) (kind : Kind) → IsRising (row_of kind (gens_at stayed g)).pages
      rises g kind = subst (λ (x : Gens). IsRising (row_of kind x).pages) (sym (get_or-map (kept_gens between) xs.groups g new_gens)) (by_kind kind)
        where
          by_kind : (kind : Kind) → IsRising (row_of kind (kept_gens between (gens_at xs.groups g))).pages
          by_kind Anon = rising-filter (λ l. is_held_in between l.page) (gens_at xs.groups g).anon.pages (sound g).anon.rising
          by_kind File = rising-filter (λ l. is_held_in between l.page) (gens_at xs.groups g).file.pages (sound g).file.rising

      by_fresh : (o : Option ℕ) → ((q : ℕ) → is_number o q ≡ is_fresh before between q) → map (kept_gens after) (with_fresh generation between o stayed) ≡ with_fresh generation after (if_passes (is_held_in after) o) kept
      by_fresh None which = kept-stayed
      by_fresh (Some p) which = by_page (page_at between p) refl
        where
          by_page : (o : Option Page) → page_at between p ≡ o → map (kept_gens after) (with_page generation p o stayed) ≡ with_fresh generation after (cond (is_held_in after p) (Some p) None) kept
          by_page None there = absurd (true≢false (sym (eq-eqb p p refl) ∙ which p ∙ ap (λ (o : Option Page). there_and is_held o && not (is_held_in before p)) there))
          by_page (Some page) there = map-set (kept_gens after) stayed page.group x ∙ ap (λ (gs : List Gens). with_gens gs page.group (kept_gens after x)) kept-stayed ∙ by_held (is_held_in after p) refl
            where
              x : Gens
              x = added p (kind_at page.content) (seq_in generation (kind_at page.content) (gens_at stayed page.group)) (gens_at stayed page.group)

              same_seq : (gen : Generation) (kind : Kind) (y z : Gens) → y ≡ kept_gens after z → seq_in gen kind z ≡ seq_in gen kind y
              same_seq gen kind y z e = by_gen gen kind ∙ ap (seq_in gen kind) (sym e)
                where
                  by_gen : (gen : Generation) (kind : Kind) → seq_in gen kind z ≡ seq_in gen kind (kept_gens after z)
                  by_gen Youngest kind = refl
                  by_gen SecondYoungest kind = refl
                  by_gen ByType Anon = refl
                  by_gen ByType File = refl

              by_held : (b : Bool) → is_held_in after p ≡ b → with_gens kept page.group (kept_gens after x) ≡ with_fresh generation after (cond b (Some p) None) kept
              by_held true here =
                  ap (with_gens kept page.group) (
                  kept-added after p (kind_at page.content) (seq_in generation (kind_at page.content) (gens_at stayed page.group)) (gens_at stayed page.group) here
                  ∙ ap (λ (n : ℕ). added p (kind_at page.content) n (kept_gens after (gens_at stayed page.group))) (same_seq generation (kind_at page.content) (gens_at kept page.group) (gens_at stayed page.group) (kept-at page.group))
                  ∙ ap (added p (kind_at page.content) (seq_in generation (kind_at page.content) (gens_at kept page.group))) (sym (kept-at page.group)))
                  ∙ sym (ap (λ (o : Option Page). with_page generation p o kept) (stays p here ∙ there))
              by_held false gone =
                  ap (with_gens kept page.group) (gone-added after p (kind_at page.content) (seq_in generation (kind_at page.content) (gens_at stayed page.group)) (gens_at stayed page.group) gone (rises page.group) ∙ sym (kept-at page.group)) ∙ set-get_or kept page.group new_gens
