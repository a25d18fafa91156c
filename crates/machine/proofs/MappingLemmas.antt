-- Look-ups and counts in page tables.
use Rattle.std.proofs.Common.{◌≡◌, ◌≢◌, inl, inr, ℕ, zero, suc, ◌+◌, ◌≤◌, ◌==◌, ◌&&◌, Bool, true, false, List, [], ◌∷◌, Option, Some, None, eqb-true, eq-eqb, ne_eqb, refl, sym, ap, ◌∙◌, arith}
use Rattle.std.specs.Prelude.{◌⊎◌, option_map, sum_by, slice_index_or}
use Rattle.std.proofs.lemmas.List.Sums.{sum_by-cons}
use Rattle.std.proofs.lemmas.Bool.{and_parts, and_right}
use Rattle.machine.specs.declared.id.PageId.{PageId}
use Rattle.machine.specs.Slots.{at, there_and}
use Rattle.machine.specs.Pages.{is_number}
use Rattle.machine.specs.Tasks.{PageTables, table_of, number_of_page, mapped_at, is_page, mappers_in, mappers, Shows, Copies, ShowsNothing}
use Rattle.machine.proofs.Values.{never_some}
use Rattle.machine.proofs.TreeLemmas.{eq_cases}
use Rattle.machine.proofs.SlotLemmas.{one_if, sum_by-alike, sum_by-less, sum_by-but_one, part-le-sum_by, parts-le-sum_by}

-- ---- one place

-- what a place adds to the count of a page is told by what it shows
pub shows-page : (p : ℕ) (slot : Option PageId) → there_and (is_page p) slot ≡ is_number (option_map number_of_page slot) p
shows-page p None = refl
shows-page p (Some page) = refl

abbrev adds : ℕ → Option PageId → ℕ
adds p slot = one_if (there_and (is_page p) slot)

abbrev pub shown_once : Option ℕ → ℕ → ℕ
shown_once shown p = one_if (is_number shown p)

-- the same in numbers
adds-shown : (tables : PageTables) (t v p : ℕ) → adds p (at (table_of tables t) v) ≡ shown_once (mapped_at tables t v) p
adds-shown tables t v p = ap one_if (shows-page p (at (table_of tables t) v))

-- what shows the page adds one
shown_is : (p : ℕ) (shown : Option ℕ) → shown ≡ Some p → shown_once shown p ≡ 1
shown_is p shown e = ap (λ s. shown_once s p) e ∙ ap one_if (eq-eqb p p refl)

-- ---- changes

-- one place, or another
pub by_place : {P : Type 0} (t v t' v' : ℕ) → (t ≡ t' → v ≡ v' → P) → (((t == t') && (v == v')) ≡ false → P) → P
by_place {P} t v t' v' here elsewhere = by_test ((t == t') && (v == v')) refl
  where
    by_test : (b : Bool) → ((t == t') && (v == v')) ≡ b → P
    by_test true is = let both = and_parts (t == t') (v == v') is in here (eqb-true t t' both.0) (eqb-true v v' both.1)
    by_test false is = elsewhere is

-- a place shows what one shows from now on, or what it did
pub shows-cases : (old new : PageTables) (t v : ℕ) (to : Option ℕ) → Shows old new t v to → (u w : ℕ) → (mapped_at new u w ≡ to) ⊎ (mapped_at new u w ≡ mapped_at old u w)
shows-cases old new t v to shows u w =
    by_place t v u w (λ same_t same_v. inl (ap (λ (x : ℕ). mapped_at new x w) (sym same_t) ∙ ap (λ (x : ℕ). mapped_at new t x) (sym same_v) ∙ shows.changed))
    (λ differ. inr (shows.others u w differ))

-- a place of the task that copies shows what its counterpart showed, and one of another task what it did
pub copies-cases : (old new : PageTables) (from to : ℕ) → Copies old new from to → (u w : ℕ) → ((u ≡ to) × (mapped_at new u w ≡ mapped_at old from w)) ⊎ ((u ≢ to) × (mapped_at new u w ≡ mapped_at old u w))
copies-cases old new from to copies u w =
    elim (eq_cases u to) [ inl same ↦ inl (same, ap (λ (x : ℕ). mapped_at new x w) same ∙ copies.copied w) | inr other ↦ inr (other, copies.others u w other) ]

-- whoever shows a page is not the task that shows nothing, and showed it before
pub shows_nothing-was : (old new : PageTables) (t : ℕ) → ShowsNothing old new t → (u w p : ℕ) → mapped_at new u w ≡ Some p → (u ≢ t) × (mapped_at old u w ≡ Some p)
shows_nothing-was old new t shows u w p at = let other = differs in (other, sym (shows.others u w other) ∙ at)
  where
    differs : u ≢ t
    differs same = never_some (mapped_at new u w) (ap (λ (x : ℕ). mapped_at new x w) same ∙ shows.none w) at

-- ---- counts

-- what is shown is counted
pub mapped_at-mappers : (tables : PageTables) (t v p : ℕ) → mapped_at tables t v ≡ Some p → 1 ≤ mappers tables p
mapped_at-mappers tables t v p e =
    let one = adds-shown tables t v p ∙ shown_is p (mapped_at tables t v) e in
    let in_table = part-le-sum_by (adds p) None refl (table_of tables t) v in
    let in_all = part-le-sum_by (mappers_in p) [] refl tables t in
    omega (arith, one, in_table, in_all)

-- two places that show a page that is mapped once are one place
pub mapped_at-one : (tables : PageTables) (t v t' v' p : ℕ) → mappers tables p ≤ 1 → mapped_at tables t v ≡ Some p → mapped_at tables t' v' ≡ Some p → ((t == t') && (v == v')) ≡ true
mapped_at-one tables t v t' v' p once e f =
    let one = adds-shown tables t v p ∙ shown_is p (mapped_at tables t v) e in
    let one' = adds-shown tables t' v' p ∙ shown_is p (mapped_at tables t' v') f in
    by_task one one' (eq_cases t t')
  where
    by_place : adds p (at (table_of tables t) v) ≡ 1 → adds p (at (table_of tables t) v') ≡ 1 → (v ≡ v') ⊎ (v ≢ v') → (v == v') ≡ true
    by_place one one' (inl same) = eq-eqb v v' same
    by_place one one' (inr other) =
        absurd
        (let both = parts-le-sum_by (adds p) None refl (table_of tables t) v v' other in
        let in_all = part-le-sum_by (mappers_in p) [] refl tables t in
        omega (arith, one, one', both, in_all, once))

    by_task : adds p (at (table_of tables t) v) ≡ 1 → adds p (at (table_of tables t') v') ≡ 1 → (t ≡ t') ⊎ (t ≢ t') → ((t == t') && (v == v')) ≡ true
    by_task one one' (inl same) = ap (λ b. b && (v == v')) (eq-eqb t t' same) ∙ by_place one (ap (λ (x : ℕ). adds p (at (table_of tables x) v')) same ∙ one') (eq_cases v v')
    by_task one one' (inr other) =
        absurd
        (let here = part-le-sum_by (adds p) None refl (table_of tables t) v in
        let there = part-le-sum_by (adds p) None refl (table_of tables t') v' in
        let both = parts-le-sum_by (mappers_in p) [] refl tables t t' other in
        omega (arith, one, one', here, there, both, once))

-- page tables that show the same count the same
pub mappers-alike : (old new : PageTables) (p : ℕ) → ((t v : ℕ) → mapped_at new t v ≡ mapped_at old t v) → mappers new p ≡ mappers old p
mappers-alike old new p same =
    sum_by-alike (mappers_in p) [] refl old new
    (λ t. sum_by-alike (adds p) None refl (table_of old t) (table_of new t) (λ v. adds-shown new t v p ∙ ap (λ s. shown_once s p) (same t v) ∙ sym (adds-shown old t v p)))

-- where each place shows what it showed, or nothing, no page has more mappers
pub mappers-less : (old new : PageTables) (p : ℕ) → ((t v : ℕ) → (mapped_at new t v ≡ mapped_at old t v) ⊎ (mapped_at new t v ≡ None)) → mappers new p ≤ mappers old p
mappers-less old new p less = sum_by-less (mappers_in p) [] refl old new (λ t. sum_by-less (adds p) None refl (table_of old t) (table_of new t) (λ v. by_case t v (less t v)))
  where
    by_case : (t v : ℕ) → (mapped_at new t v ≡ mapped_at old t v) ⊎ (mapped_at new t v ≡ None) → adds p (at (table_of new t) v) ≤ adds p (at (table_of old t) v)
    by_case t v (inl same) = let now = adds-shown new t v p in let was = adds-shown old t v p in let shown = ap (λ s. shown_once s p) same in omega (arith, now, was, shown)
    by_case t v (inr none) = let now = adds-shown new t v p in let nothing : shown_once (mapped_at new t v) p ≡ 0 = ap (λ s. shown_once s p) none in omega (arith, now, nothing)

-- one place shows something else
pub mappers-shows : (old new : PageTables) (t v p : ℕ) (to : Option ℕ) → Shows old new t v to → mappers new p + shown_once (mapped_at old t v) p ≡ mappers old p + shown_once to p
mappers-shows old new t v p to shows =
    let table =
    sum_by-but_one (adds p) None refl (table_of old t) (table_of new t) v
    (λ w ne. adds-shown new t w p ∙ ap (λ s. shown_once s p) (shows.others t w (and_right_miss (t == t) (v == w) (ne_eqb v w (λ e. ne (sym e))))) ∙ sym (adds-shown old t w p)) in
    let all =
    sum_by-but_one (mappers_in p) [] refl old new t
    (λ u ne.
    sum_by-alike (adds p) None refl (table_of old u) (table_of new u)
    (λ w. adds-shown new u w p ∙ ap (λ s. shown_once s p) (shows.others u w (ap (λ b. b && (v == w)) (ne_eqb t u (λ e. ne (sym e))))) ∙ sym (adds-shown old u w p))) in
    let was = adds-shown old t v p in
    let now : adds p (at (table_of new t) v) ≡ shown_once to p = adds-shown new t v p ∙ ap (λ s. shown_once s p) shows.changed in
    omega (arith, table, all, was, now)
  where
    and_right_miss : (a b : Bool) → b ≡ false → (a && b) ≡ false
    and_right_miss a b e = ap (λ x. a && x) e ∙ and_right a false refl

-- the tables of a task that showed nothing show nothing from now on: nothing is counted otherwise
pub mappers-nothing : (old new : PageTables) (t p : ℕ) → ShowsNothing old new t → ((v : ℕ) → mapped_at old t v ≡ None) → mappers new p ≡ mappers old p
mappers-nothing old new t p shows none = mappers-alike old new p same
  where
    same : (u w : ℕ) → mapped_at new u w ≡ mapped_at old u w
    same u w = elim (eq_cases u t) [ inl is ↦ ap (λ (x : ℕ). mapped_at new x w) is ∙ shows.none w ∙ sym (none w) ∙ ap (λ (x : ℕ). mapped_at old x w) (sym is) | inr other ↦ shows.others u w other ]

-- ---- who maps a page

-- a place of a task that shows the page
pub record Mapper (tables : PageTables) (p : ℕ) : Type 0 where
  pub task : ℕ
  pub place : ℕ
  pub mapped : mapped_at tables task place ≡ Some p

-- of a sum that is not 0 some part is not 0
some_part : {X : Type 0} (f : X → ℕ) (d : X) (xs : List X) → 1 ≤ sum_by f xs → (k : ℕ) × (1 ≤ f (slice_index_or xs k d))
some_part f d [] some = absurd (omega (arith, some))
some_part f d (x ∷ xs) some = by_first (f x) refl (sum_by-cons f x xs) (some_part f d xs)
  where
    by_first : (n : ℕ) → f x ≡ n → sum_by f (x ∷ xs) ≡ f x + sum_by f xs → (1 ≤ sum_by f xs → (k : ℕ) × (1 ≤ f (slice_index_or xs k d))) → (k : ℕ) × (1 ≤ f (slice_index_or (x ∷ xs) k d))
    by_first zero is more rest = (let later = rest (omega (arith, some, is, more)) in (suc later.0, later.1))
    by_first (suc n) is more rest = (0, omega (arith, is))

-- a place adds to the count of the page that it shows
shown_there : (p : ℕ) (slot : Option PageId) → 1 ≤ one_if (there_and (is_page p) slot) → option_map number_of_page slot ≡ Some p
shown_there p None some = absurd (omega (arith, some))
shown_there p (Some page) some = by_test (page.0 == p) refl some
  where
    by_test : (b : Bool) → (page.0 == p) ≡ b → 1 ≤ one_if b → Some page.0 ≡ Some p
    by_test true is h = ap (λ (x : ℕ). Some x) (eqb-true page.0 p is)
    by_test false is h = absurd (omega (arith, h))

-- what is counted is shown
pub mappers_some : (tables : PageTables) (p : ℕ) → 1 ≤ mappers tables p → Mapper tables p
mappers_some tables p some =
    let table = some_part (mappers_in p) [] tables some in
    let place = some_part (λ (slot : Option PageId). one_if (there_and (is_page p) slot)) None (table_of tables table.0) table.1 in
    record { task = table.0; place = place.0; mapped = shown_there p (at (table_of tables table.0) place.0) place.1 }
