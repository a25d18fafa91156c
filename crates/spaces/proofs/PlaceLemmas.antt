-- One place of a page table shows something else.
use Rattle.std.proofs.Common.{◌≡◌, ◌≢◌, inl, inr, ℕ, zero, suc, ◌+◌, ◌-◌, ◌*◌, ◌<◌, ◌≤◌, ◌==◌, ◌&&◌, Bool, true, false, cond, List, [], ◌∷◌, length, Option, Some, None, eq-eqb, ne_eqb, refl, sym, ap, ◌∙◌, arith, get_or, get_or-set_same, get_or-set_other, slice_set}
use Rattle.std.specs.Prelude.{◌⊎◌, slice_index, option_map}
use Rattle.std.proofs.lemmas.List.{get_or_default, length-set}
use Rattle.std.proofs.lemmas.List.Sums.{sum_by-cons, count_by-le-length}
use Rattle.machine.specs.declared.id.PageId.{PageId}
use Rattle.machine.specs.Access.{task_pages}
use Rattle.machine.specs.Slots.{at, there_and}
use Rattle.machine.specs.Tasks.{Tasks, PageTable, PageTables, table_of, number_of_page, mapped_at, is_page, mappers_in, mappers, lives, Shows}
use Rattle.machine.proofs.TreeLemmas.{eq_cases}
use Rattle.machine.proofs.MappingLemmas.{shown_once, mapped_at-mappers, mappers-shows}
use Rattle.spaces.specs.Tables.{AreSpaces}

-- ---- reads

-- a number whose table has a place is within
pub table_of-within : (tables : PageTables) (t : ℕ) → 0 < length (table_of tables t) → t < length tables
table_of-within [] t some = absurd (omega (arith, some))
table_of-within (table ∷ tables) zero some = omega arith
table_of-within (table ∷ tables) (suc t) some = let rest = table_of-within tables t some in omega (arith, rest)

-- a number that is kept at a place is within
pub kept-within : (counts : List ℕ) (p : ℕ) → 0 < slice_index counts p → p < length counts
kept-within [] p some = absurd (omega (arith, some))
kept-within (count ∷ counts) zero some = omega arith
kept-within (count ∷ counts) (suc p) some = let rest = kept-within counts p some in omega (arith, rest)

-- a virtual page that shows a page is within its table
pub mapped_at-within : (tables : PageTables) (t v p : ℕ) → mapped_at tables t v ≡ Some p → v < length (table_of tables t)
mapped_at-within tables t v p is = in_table (table_of tables t) v is
  where
    in_table : (table : PageTable) (v : ℕ) → option_map number_of_page (at table v) ≡ Some p → v < length table
    in_table [] v is = absurd (cc)
    in_table (slot ∷ slots) zero is = omega arith
    in_table (slot ∷ slots) (suc v) is = let rest = in_table slots v is in omega (arith, rest)

-- no page is shown more often than there are places
pub mappers-le : (tables : PageTables) (most p : ℕ) → ((t : ℕ) → length (table_of tables t) ≤ most) → mappers tables p ≤ length tables * most
mappers-le [] most p few = omega arith
mappers-le (table ∷ tables) most p few =
    let more = sum_by-cons (mappers_in p) table tables in
    let here = count_by-le-length (there_and (is_page p)) table in
    let short = few 0 in
    let rest = mappers-le tables most p (λ t. few (suc t)) in
    omega (arith, more, here, short, rest)

-- ---- what always holds

module _ (tasks : Tasks) (tables : PageTables) (live : ℕ) (by_group counts : List ℕ) (h : AreSpaces tasks tables live by_group counts) where
  length-le : (t : ℕ) → length (table_of tables t) ≤ task_pages
  length-le t = by_life (lives tasks t) (h.whole t)
    where
      by_life : (b : Bool) → length (table_of tables t) ≡ cond b task_pages 0 → length (table_of tables t) ≤ task_pages
      by_life true is = omega (arith, is)
      by_life false is = omega (arith, is)

  -- a live task has all its virtual pages
  pub place-within : (t v : ℕ) → lives tasks t ≡ true → v < task_pages → v < length (table_of tables t)
  place-within t v alive lt = let is : length (table_of tables t) ≡ task_pages = h.whole t ∙ ap (λ b. cond b task_pages 0) alive in omega (arith, is, lt)

  -- a count, read as n: one page more can be counted
  pub count-fits : (p n : ℕ) → p < length counts → n ≡ get_or counts p n → n + 1 < 4294967296
  count-fits p n there read =
      let is = read ∙ get_or_default counts p n 0 there in
      let counted = h.counted p in
      let few = mappers-le tables task_pages p length-le in
      let tables_le = h.as_many in
      let within = h.within in
      omega (arith, is, counted, few, tables_le, within)

  -- a page that is shown has a count, and it is not 0
  pub shown-within : (t v p : ℕ) → mapped_at tables t v ≡ Some p → p < length counts
  shown-within t v p is = kept-within counts p (let some = mapped_at-mappers tables t v p is in let counted = h.counted p in omega (arith, some, counted))

  pub shown-counted : (t v p n : ℕ) → mapped_at tables t v ≡ Some p → n ≡ get_or counts p n → 1 ≤ n
  shown-counted t v p n is read =
      let some = mapped_at-mappers tables t v p is in
      let counted = h.counted p in
      let kept = read ∙ get_or_default counts p n 0 (shown-within t v p is) in
      omega (arith, some, counted, kept)

-- ---- a write

-- the table of a task, read as `table`, with another thing at one place
module _ (tables : PageTables) (t v : ℕ) (table now : PageTable) (to : Option PageId) (there : t < length tables) (read : table ≡ get_or tables t table) (within : v < length (table_of tables t)) (write : now ≡ slice_set table v to) where
  table_is : table ≡ table_of tables t
  table_is = read ∙ get_or_default tables t table [] there

  now_is : table_of (slice_set tables t now) t ≡ slice_set (table_of tables t) v to
  now_is = get_or-set_same tables t now [] there ∙ write ∙ ap (λ (x : PageTable). slice_set x v to) table_is

  pub length-written : (u : ℕ) → length (table_of (slice_set tables t now) u) ≡ length (table_of tables u)
  length-written u =
      elim (eq_cases u t) [
        | inl is ↦ ap (λ (x : ℕ). length (table_of (slice_set tables t now) x)) is ∙ ap length now_is ∙ length-set (table_of tables t) v to ∙ ap (λ (x : ℕ). length (table_of tables x)) (sym is)
        | inr other ↦ ap length (get_or-set_other tables t u now [] other)
      ]

  pub Shows-written : Shows tables (slice_set tables t now) t v (option_map number_of_page to)
  Shows-written =
      record {
        changed = ap (λ (x : PageTable). option_map number_of_page (at x v)) now_is ∙ ap (option_map number_of_page) (get_or-set_same (table_of tables t) v to None within);
        others = λ u w differs. elim (eq_cases u t) [ inl is ↦ same_task u w is (eq_cases w v) differs | inr other ↦ ap (λ (x : PageTable). option_map number_of_page (at x w)) (get_or-set_other tables t u now [] other) ];
      }
    where
      same_task : (u w : ℕ) → u ≡ t → (w ≡ v) ⊎ (w ≢ v) → ((t == u) && (v == w)) ≡ false → mapped_at (slice_set tables t now) u w ≡ mapped_at tables u w
      same_task u w is (inl same) differs = absurd (let one = eq-eqb t u (sym is) in let two = eq-eqb v w (sym same) in grind (arith, one, two, differs))
      same_task u w is (inr other) differs =
          ap (λ (x : ℕ). mapped_at (slice_set tables t now) x w) is
          ∙ ap (λ (x : PageTable). option_map number_of_page (at x w)) now_is
          ∙ ap (option_map number_of_page) (get_or-set_other (table_of tables t) v w to None other)
          ∙ ap (λ (x : ℕ). mapped_at tables x w) (sym is)

-- ---- the counts

-- the count of the page that comes or goes is written, and no other page's changes
counted-written : (old new : PageTables) (t v q n : ℕ) (to : Option ℕ) (counts : List ℕ) → Shows old new t v to → ((p : ℕ) → mappers old p ≡ slice_index counts p) → q < length counts
    → n + shown_once (mapped_at old t v) q ≡ slice_index counts q + shown_once to q → ((p : ℕ) → p ≢ q → shown_once (mapped_at old t v) p ≡ shown_once to p)
    → (p : ℕ) → mappers new p ≡ slice_index (slice_set counts q n) p
counted-written old new t v q n to counts shows counted there own others p =
    elim (eq_cases p q) [
      | inl is ↦
          (let moved = mappers-shows old new t v q to shows in
          let was = counted q in
          let here : mappers new q ≡ n = omega (arith, moved, was, own) in
          ap (mappers new) is ∙ here ∙ sym (get_or-set_same counts q n 0 there) ∙ ap (slice_index (slice_set counts q n)) (sym is))
      | inr other ↦
          (let moved = mappers-shows old new t v p to shows in
          let alike = others p other in
          let was = counted p in
          let kept = get_or-set_other counts q p n 0 other in
          omega (arith, moved, alike, was, kept))
    ]

-- another page than this one is not counted for it
shown_once-other : (q p : ℕ) → p ≢ q → shown_once (Some q) p ≡ 0
shown_once-other q p other = let miss = ne_eqb q p (λ e. other (sym e)) in ap (λ b. cond b 1 0) miss

shown_once-own : (q : ℕ) → shown_once (Some q) q ≡ 1
shown_once-own q = ap (λ b. cond b 1 0) (eq-eqb q q refl)

-- ---- a page comes, and a page goes

module _ (tasks : Tasks) (tables : PageTables) (live : ℕ) (by_group counts : List ℕ) (h : AreSpaces tasks tables live by_group counts) (t v n : ℕ) (table now : PageTable) (page : PageId) (read : table ≡ get_or tables t table) (count : n ≡ get_or counts page.0 n) where
  after : (now : PageTable) (to : Option PageId) (n' : ℕ) → v < length (table_of tables t) → now ≡ slice_set table v to → ((p : ℕ) → mappers (slice_set tables t now) p ≡ slice_index (slice_set counts page.0 n') p)
      → AreSpaces tasks (slice_set tables t now) live by_group (slice_set counts page.0 n')
  after now to n' place write counted =
      let there = table_of-within tables t (omega (arith, place)) in
      record {
        within = h.within;
        as_many = length-set tables t now ∙ h.as_many;
        living = h.living;
        grouped = h.grouped;
        whole = λ u. length-written tables t v table now to there read place write u ∙ h.whole u;
        counted = counted;
      }

  pub Shows-mapped : v < length (table_of tables t) → now ≡ slice_set table v (Some page) → Shows tables (slice_set tables t now) t v (Some page.0)
  Shows-mapped place write = Shows-written tables t v table now (Some page) (table_of-within tables t (omega (arith, place))) read place write

  pub AreSpaces-mapped : v < length (table_of tables t) → mapped_at tables t v ≡ None → page.0 < length counts → now ≡ slice_set table v (Some page)
      → AreSpaces tasks (slice_set tables t now) live by_group (slice_set counts page.0 (n + 1))
  AreSpaces-mapped place none there write =
      let is = count ∙ get_or_default counts page.0 n 0 there in
      let before : (p : ℕ) → shown_once (mapped_at tables t v) p ≡ 0 = λ p. ap (λ s. shown_once s p) none in
      after now (Some page) (n + 1) place write
      (counted-written tables (slice_set tables t now) t v page.0 (n + 1) (Some page.0) counts (Shows-mapped place write) h.counted there (let was = before page.0 in let one = shown_once-own page.0 in omega (arith, was, one, is))
      (λ p other. before p ∙ sym (shown_once-other page.0 p other)))

  pub Shows-unmapped : mapped_at tables t v ≡ Some page.0 → now ≡ slice_set table v None → Shows tables (slice_set tables t now) t v None
  Shows-unmapped some write =
      let place = mapped_at-within tables t v page.0 some in
      Shows-written tables t v table now None (table_of-within tables t (omega (arith, place))) read place write

  pub AreSpaces-unmapped : mapped_at tables t v ≡ Some page.0 → now ≡ slice_set table v None → AreSpaces tasks (slice_set tables t now) live by_group (slice_set counts page.0 (n - 1))
  AreSpaces-unmapped some write =
      let there = shown-within tasks tables live by_group counts h t v page.0 some in
      let is = count ∙ get_or_default counts page.0 n 0 there in
      let more = shown-counted tasks tables live by_group counts h t v page.0 n some count in
      let before : (p : ℕ) → shown_once (mapped_at tables t v) p ≡ shown_once (Some page.0) p = λ p. ap (λ s. shown_once s p) some in
      after now None (n - 1) (mapped_at-within tables t v page.0 some) write
      (counted-written tables (slice_set tables t now) t v page.0 (n - 1) None counts (Shows-unmapped some write) h.counted there (let was = before page.0 in let one = shown_once-own page.0 in omega (arith, was, one, is, more))
      (λ p other. before p ∙ shown_once-other page.0 p other))
