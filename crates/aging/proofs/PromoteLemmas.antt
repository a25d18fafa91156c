-- The walk along a row that takes the marked pages to its tail.
use Rattle.std.proofs.Common.{◌≡◌, ℕ, ◌+◌, ◌<◌, ◌≤◌, ◌≢◌, ◌||◌, not, Bool, true, false, cond, eqb, List, [], ◌∷◌, ◌++◌, length, map, filter, set, get_or, slice_get, Option, Some, None, option_map, IfSome, refl, sym, ap, ◌∙◌, subst, inl, inr, arith, append_assoc, append-nil, length-append, get_or-set_other}
use Rattle.std.specs.List.{AllByRecursion}
use Rattle.std.proofs.lemmas.List.{set-get_or}
use Rattle.std.proofs.lemmas.List.Elements.{filter-append}
use Rattle.std.proofs.lemmas.Bool.{cases_Bool, eq-eqb, eqb-true, eqb-false, true≢false}
use Rattle.lru_gen.proofs.KindLemmas.{anon_is_no_file, file_is_no_anon, row_by, both_rows, sound_row, sound_distinct, sound_apart}
use Rattle.machine.specs.declared.record.Kind.{Kind}
use Rattle.machine.specs.declared.record.Kind.TheVariants.{Anon, File}
use Rattle.machine.specs.Generations.{Listed, Gens, at_seq, row_of, on_row, added, isolated, entered, without, has_page, after_in, IsGens, AreDistinct}
use Rattle.machine.specs.Aging.{has_mark, is_marked, cleared, promoted}
use Rattle.machine.specs.Eviction.{front_run, behind_run}
use Rattle.page_lists.proofs.ListedLemmas.{each-append, each-front, each-back, none-in, without-all, top-each, distinct-middle, entered-tail}
use Rattle.page_lists.proofs.AgingLemmas.{clear-here, cleared-keeps}

abbrev pub with_pages : Kind → List Listed → Gens → Gens
with_pages kind pages g = on_row kind (λ row. record { min_seq = row.min_seq; pages = pages }) g

abbrev pub marked_of : List Bool → List Listed → List Listed
marked_of m pages = filter (has_mark m) pages

abbrev pub unmarked_of : List Bool → List Listed → List Listed
unmarked_of m pages = filter (λ l. not (has_mark m l)) pages

-- the pages before the one that is met next, and those from it on. Where none is next, all are passed
abbrev passed_of : Option ℕ → List Listed → List Listed
passed_of None pages = pages
passed_of (Some p) pages = front_run (λ l. not (eqb l.page p)) pages

abbrev pub rest_of : Option ℕ → List Listed → List Listed
rest_of None pages = []
rest_of (Some p) pages = behind_run (λ l. not (eqb l.page p)) pages

-- the row at the end of the walk, by the page that is met next
abbrev pub ending : Option ℕ → ℕ → List Bool → List Listed → List Listed
ending next top m pages = passed_of next pages ++ (unmarked_of m (rest_of next pages) ++ map (at_seq top) (marked_of m (rest_of next pages)))

abbrev first_page : List Listed → Option ℕ
first_page pages = option_map (λ (l : Listed). l.page) (slice_get pages 0)

-- ---- one row of two

with-with : (kind : Kind) (xs ys : List Listed) (g : Gens) → with_pages kind xs (with_pages kind ys g) ≡ with_pages kind xs g
with-with Anon xs ys g = refl
with-with File xs ys g = refl

row-with : (kind : Kind) (xs : List Listed) (g : Gens) → (row_of kind (with_pages kind xs g)).pages ≡ xs
row-with Anon xs g = refl
row-with File xs g = refl

with-same : (kind : Kind) (g : Gens) → with_pages kind (row_of kind g).pages g ≡ g
with-same Anon g = refl
with-same File g = refl

promoted-is : (kind : Kind) (m : List Bool) (g : Gens) → with_pages kind (unmarked_of m (row_of kind g).pages ++ map (at_seq g.max_seq) (marked_of m (row_of kind g).pages)) g ≡ on_row kind (promoted g.max_seq m) g
promoted-is Anon m g = refl
promoted-is File m g = refl

-- ---- where a page stands in a row

after-here : (x : Listed) (xs : List Listed) (p : ℕ) → eqb x.page p ≡ true → after_in p (x ∷ xs) ≡ first_page xs
after-here x [] p t = refl
after-here x (y ∷ ys) p t = rw t refl

after-later : (x : Listed) (xs : List Listed) (p : ℕ) → eqb x.page p ≡ false → after_in p (x ∷ xs) ≡ after_in p xs
after-later x [] p t = refl
after-later x (y ∷ ys) p t = rw t refl

pub record At (pages : List Listed) (p : ℕ) : Type 0 where
  pub before : List Listed
  pub here : Listed
  pub rest : List Listed
  pub is : pages ≡ before ++ here ∷ rest
  pub page : here.page ≡ p
  pub next : after_in p pages ≡ first_page rest

pub at : (pages : List Listed) (p : ℕ) → has_page p pages ≡ true → At pages p
at [] p e = absurd (true≢false (sym e))
at (x ∷ xs) p e =
    elim (cases_Bool (eqb x.page p)) [
      | inl here ↦ record { before = []; here = x; rest = xs; is = refl; page = eqb-true x.page p here; next = after-here x xs p here }
      | inr later ↦
          let a = at xs p (rw later at e) in
          record { before = x ∷ a.before; here = a.here; rest = a.rest; is = ap (λ (zs : List Listed). x ∷ zs) a.is; page = a.page; next = after-later x xs p later ∙ a.next }
    ]

-- ---- a row in two parts

-- the page that is met next parts the row so
pub record Parted (next : Option ℕ) (pages bs rs : List Listed) : Type 0 where
  pub passed : passed_of next pages ≡ bs
  pub rest : rest_of next pages ≡ rs

passed-split : (bs : List Listed) (l : Listed) (rs : List Listed) → AllByRecursion (λ k. eqb k.page l.page ≡ false) bs → passed_of (Some l.page) (bs ++ l ∷ rs) ≡ bs
passed-split [] l rs h = rw (eq-eqb l.page l.page refl) refl
passed-split (b ∷ bs) l rs h = rw h.0 (ap (λ (zs : List Listed). b ∷ zs) (passed-split bs l rs h.1))

rest-split : (bs : List Listed) (l : Listed) (rs : List Listed) → AllByRecursion (λ k. eqb k.page l.page ≡ false) bs → rest_of (Some l.page) (bs ++ l ∷ rs) ≡ l ∷ rs
rest-split [] l rs h = rw (eq-eqb l.page l.page refl) refl
rest-split (b ∷ bs) l rs h = rw h.0 (rest-split bs l rs h.1)

parted-here : (pages bs : List Listed) (l : Listed) (rs : List Listed) → pages ≡ bs ++ l ∷ rs → AllByRecursion (λ k. eqb k.page l.page ≡ false) bs → Parted (Some l.page) pages bs (l ∷ rs)
parted-here pages bs l rs e h = subst (λ (zs : List Listed). Parted (Some l.page) zs bs (l ∷ rs)) (sym e) (record { passed = passed-split bs l rs h; rest = rest-split bs l rs h })

parted-end : (pages : List Listed) → Parted None pages pages []
parted-end pages = record { passed = refl; rest = refl }

-- the first page of the second part is none of the first
abbrev FirstApart : List Listed → List Listed → Type 0
FirstApart bs [] = Unit {0}
FirstApart bs (r ∷ rs) = AllByRecursion (λ k. eqb k.page r.page ≡ false) bs

parted-next : (pages bs rs : List Listed) → pages ≡ bs ++ rs → FirstApart bs rs → Parted (first_page rs) pages bs rs
parted-next pages bs [] e h = record { passed = e ∙ append-nil bs; rest = refl }
parted-next pages bs (r ∷ rs) e h = parted-here pages bs r rs e h

-- the row at the end, by the parts
ending-by : (next : Option ℕ) (top : ℕ) (m : List Bool) (pages bs rs : List Listed) → Parted next pages bs rs → ending next top m pages ≡ bs ++ (unmarked_of m rs ++ map (at_seq top) (marked_of m rs))
ending-by next top m pages bs rs p =
    ap (λ (zs : List Listed). zs ++ (unmarked_of m (rest_of next pages) ++ map (at_seq top) (marked_of m (rest_of next pages)))) p.passed
    ∙ ap (λ (zs : List Listed). bs ++ (unmarked_of m zs ++ map (at_seq top) (marked_of m zs))) p.rest

-- ---- the steps, by the parts of the row

-- an unmarked page is passed by
pass-parts : (top : ℕ) (m : List Bool) (bs : List Listed) (l : Listed) (rs : List Listed) → has_mark m l ≡ false
    → (bs ++ l ∷ []) ++ (unmarked_of m rs ++ map (at_seq top) (marked_of m rs)) ≡ bs ++ (unmarked_of m (l ∷ rs) ++ map (at_seq top) (marked_of m (l ∷ rs)))
pass-parts top m bs l rs k =
    let un : unmarked_of m (l ∷ rs) ≡ l ∷ unmarked_of m rs = rw k refl in
    let ma : marked_of m (l ∷ rs) ≡ marked_of m rs = rw k refl in
    append_assoc bs (l ∷ []) (unmarked_of m rs ++ map (at_seq top) (marked_of m rs))
    ∙ sym (ap (λ (zs : List Listed). bs ++ (zs ++ map (at_seq top) (marked_of m (l ∷ rs)))) un ∙ ap (λ (zs : List Listed). bs ++ ((l ∷ unmarked_of m rs) ++ map (at_seq top) zs)) ma)

-- other marks do not tell of these pages
unmarked-clear : (p : ℕ) (m : List Bool) (xs : List Listed) → AllByRecursion (λ l. eqb l.page p ≡ false) xs → unmarked_of (set m p false) xs ≡ unmarked_of m xs
unmarked-clear p m [] h = refl
unmarked-clear p m (x ∷ xs) h =
    let ne : x.page ≢ p = λ q. eqb-false x.page p h.0 q in
    rw (get_or-set_other m p x.page false false ne) (ap (λ (zs : List Listed). cond (not (get_or m x.page false)) (x ∷ zs) zs) (unmarked-clear p m xs h.1))

marked-clear : (p : ℕ) (m : List Bool) (xs : List Listed) → AllByRecursion (λ l. eqb l.page p ≡ false) xs → marked_of (set m p false) xs ≡ marked_of m xs
marked-clear p m [] h = refl
marked-clear p m (x ∷ xs) h =
    let ne : x.page ≢ p = λ q. eqb-false x.page p h.0 q in
    rw (get_or-set_other m p x.page false false ne) (ap (λ (zs : List Listed). cond (get_or m x.page false) (x ∷ zs) zs) (marked-clear p m xs h.1))

moved-marked : (top : ℕ) (m : List Bool) (l : Listed) (rs : List Listed) → has_page l.page rs ≡ false → marked_of (set m l.page false) (rs ++ at_seq top l ∷ []) ≡ marked_of m rs
moved-marked top m l rs a =
    let m' : List Bool = set m l.page false in
    filter-append (λ (x : Listed). has_mark m' x) rs (at_seq top l ∷ []) ∙ ap (λ (b : Bool). marked_of m' rs ++ cond b (at_seq top l ∷ []) []) (clear-here m l.page)
    ∙ append-nil (marked_of m' rs) ∙ marked-clear l.page m rs (none-in l.page rs a)

-- a marked page goes to the tail, unmarked
move-parts : (top : ℕ) (m : List Bool) (bs : List Listed) (l : Listed) (rs : List Listed) → has_mark m l ≡ true → has_page l.page rs ≡ false
    → bs ++ (unmarked_of (set m l.page false) (rs ++ at_seq top l ∷ []) ++ map (at_seq top) (marked_of (set m l.page false) (rs ++ at_seq top l ∷ [])))
    ≡ bs ++ (unmarked_of m (l ∷ rs) ++ map (at_seq top) (marked_of m (l ∷ rs)))
move-parts top m bs l rs k a =
    let m' : List Bool = set m l.page false in
    let apart = none-in l.page rs a in
    let cl = clear-here m l.page in
    let un' : unmarked_of m' (rs ++ at_seq top l ∷ []) ≡ unmarked_of m rs ++ at_seq top l ∷ [] =
    filter-append (λ (x : Listed). not (has_mark m' x)) rs (at_seq top l ∷ []) ∙ ap (λ (b : Bool). unmarked_of m' rs ++ cond (not b) (at_seq top l ∷ []) []) cl
    ∙ ap (λ (zs : List Listed). zs ++ at_seq top l ∷ []) (unmarked-clear l.page m rs apart) in
    let ma' : marked_of m' (rs ++ at_seq top l ∷ []) ≡ marked_of m rs = moved-marked top m l rs a in
    let un : unmarked_of m (l ∷ rs) ≡ unmarked_of m rs = rw k refl in
    let ma : marked_of m (l ∷ rs) ≡ l ∷ marked_of m rs = rw k refl in
    ap (λ (zs : List Listed). bs ++ (zs ++ map (at_seq top) (marked_of m' (rs ++ at_seq top l ∷ [])))) un'
    ∙ ap (λ (zs : List Listed). bs ++ ((unmarked_of m rs ++ at_seq top l ∷ []) ++ map (at_seq top) zs)) ma'
    ∙ ap (λ (zs : List Listed). bs ++ zs) (append_assoc (unmarked_of m rs) (at_seq top l ∷ []) (map (at_seq top) (marked_of m rs)))
    ∙ sym (ap (λ (zs : List Listed). bs ++ (zs ++ map (at_seq top) (marked_of m (l ∷ rs)))) un ∙ ap (λ (zs : List Listed). bs ++ (unmarked_of m rs ++ map (at_seq top) zs)) ma)

-- so too where it is the last: then all are passed
move-last : (top : ℕ) (m : List Bool) (bs : List Listed) (l : Listed) → has_mark m l ≡ true
    → (bs ++ ([] ++ at_seq top l ∷ [])) ++ (unmarked_of (set m l.page false) [] ++ map (at_seq top) (marked_of (set m l.page false) [])) ≡ bs ++ (unmarked_of m (l ∷ []) ++ map (at_seq top) (marked_of m (l ∷ [])))
move-last top m bs l k = append-nil (bs ++ at_seq top l ∷ []) ∙ sym (rw k refl)

pub cleared-append : (xs ys : List Listed) (m : List Bool) → cleared (xs ++ ys) m ≡ cleared ys (cleared xs m)
cleared-append [] ys m = refl
cleared-append (x ∷ xs) ys m = cleared-append xs ys (set m x.page false)

set-unmarked : (m : List Bool) (p : ℕ) → is_marked m p ≡ false → set m p false ≡ m
set-unmarked m p h = ap (λ (b : Bool). set m p b) (sym h) ∙ set-get_or m p false

move-cleared : (top : ℕ) (m : List Bool) (l : Listed) (rs : List Listed) → cleared (rs ++ at_seq top l ∷ []) (set m l.page false) ≡ cleared (l ∷ rs) m
move-cleared top m l rs =
    cleared-append rs (at_seq top l ∷ []) (set m l.page false)
    ∙ set-unmarked (cleared rs (set m l.page false)) l.page (cleared-keeps rs (set m l.page false) l.page (clear-here m l.page))

-- ---- a page goes to the tail of its row

without-middle : (bs : List Listed) (l : Listed) (rs : List Listed) → AllByRecursion (λ k. eqb k.page l.page ≡ false) bs → AllByRecursion (λ k. eqb k.page l.page ≡ false) rs → without l.page (bs ++ l ∷ rs) ≡ bs ++ rs
without-middle bs l rs hb hr =
    filter-append (λ (x : Listed). not (eqb x.page l.page)) bs (l ∷ rs) ∙ ap (λ (zs : List Listed). zs ++ without l.page (l ∷ rs)) (without-all l.page bs hb)
    ∙ ap (λ (zs : List Listed). bs ++ zs) (rw (eq-eqb l.page l.page refl) (without-all l.page rs hr))

tail-middle : (top : ℕ) (bs : List Listed) (l : Listed) (rs : List Listed) → AllByRecursion (λ k. eqb k.page l.page ≡ false) bs → AllByRecursion (λ k. eqb k.page l.page ≡ false) rs → AllByRecursion (λ k. k.seq ≤ top) (bs ++ l ∷ rs)
    → entered l.page top (without l.page (bs ++ l ∷ rs)) ≡ bs ++ (rs ++ at_seq top l ∷ [])
tail-middle top bs l rs hb hr t =
    let back : AllByRecursion (λ k. k.seq ≤ top) (l ∷ rs) = each-back (λ k. k.seq ≤ top) bs (l ∷ rs) t in
    ap (λ (zs : List Listed). entered l.page top zs) (without-middle bs l rs hb hr)
    ∙ entered-tail l.page top (bs ++ rs) (each-append (λ k. k.seq ≤ top) bs rs (each-front (λ k. k.seq ≤ top) bs (l ∷ rs) t) back.1)
    ∙ append_assoc bs rs (at_seq top l ∷ [])

-- no other page of the row is this one
row-parts : (kind : Kind) (g : Gens) (bs : List Listed) (l : Listed) (rs : List Listed) → IsGens g → (row_of kind g).pages ≡ bs ++ l ∷ rs → (has_page l.page bs ≡ false) × (has_page l.page rs ≡ false)
row-parts kind g bs l rs s e = distinct-middle bs l rs (subst (λ (zs : List Listed). AreDistinct zs) e (sound_distinct s kind))

pub in-middle : (bs : List Listed) (l : Listed) (rs : List Listed) → has_page l.page (bs ++ l ∷ rs) ≡ true
in-middle [] l rs = rw (eq-eqb l.page l.page refl) refl
in-middle (b ∷ bs) l rs = elim (eqb b.page l.page) as (λ v. (v || has_page l.page (bs ++ l ∷ rs)) ≡ true) [ true ↦ refl | false ↦ in-middle bs l rs ]

moved-by : (kind : Kind) (g : Gens) (p : ℕ) (xs : List Listed) → entered p g.max_seq (without p (row_of kind g).pages) ≡ xs → ((j : Kind) → j ≢ kind → without p (row_of j g).pages ≡ (row_of j g).pages) → added p kind g.max_seq (isolated p g) ≡ with_pages kind xs g
moved-by Anon g p xs own others = both_rows (row_by g.anon.min_seq own) (row_by g.file.min_seq (others File file_is_no_anon))
moved-by File g p xs own others = both_rows (row_by g.anon.min_seq (others Anon anon_is_no_file)) (row_by g.file.min_seq own)

pub moved : (kind : Kind) (g : Gens) (bs : List Listed) (l : Listed) (rs : List Listed) → IsGens g → (row_of kind g).pages ≡ bs ++ l ∷ rs → added l.page kind g.max_seq (isolated l.page g) ≡ with_pages kind (bs ++ (rs ++ at_seq g.max_seq l ∷ [])) g
moved kind g bs l rs s e =
    let parts = row-parts kind g bs l rs s e in
    let row = sound_row s kind in
    let t : AllByRecursion (λ k. k.seq ≤ g.max_seq) (bs ++ l ∷ rs) = subst (λ (zs : List Listed). AllByRecursion (λ k. k.seq ≤ g.max_seq) zs) e (top-each g.max_seq (row_of kind g).min_seq (row_of kind g).pages row.within) in
    let there : has_page l.page (row_of kind g).pages ≡ true = ap (λ (zs : List Listed). has_page l.page zs) e ∙ in-middle bs l rs in
    moved-by kind g l.page (bs ++ (rs ++ at_seq g.max_seq l ∷ []))
    (ap (λ (zs : List Listed). entered l.page g.max_seq (without l.page zs)) e ∙ tail-middle g.max_seq bs l rs (none-in l.page bs parts.0) (none-in l.page rs parts.1) t)
    (λ j differs. without-all l.page (row_of j g).pages (none-in l.page (row_of j g).pages (sound_apart s kind j differs l.page there)))

-- ---- a turn of the walk

row-apart : (kind : Kind) (g : Gens) (bs : List Listed) (l : Listed) (rs : List Listed) → IsGens g → (row_of kind g).pages ≡ bs ++ l ∷ rs → AllByRecursion (λ k. eqb k.page l.page ≡ false) bs
row-apart kind g bs l rs s e = none-in l.page bs (row-parts kind g bs l rs s e).0

first-apart : (kind : Kind) (g : Gens) (bs : List Listed) (l : Listed) (rs : List Listed) → IsGens g → (row_of kind g).pages ≡ bs ++ l ∷ rs → FirstApart (bs ++ l ∷ []) rs
first-apart kind g bs l [] s e = tt
first-apart kind g bs l (r ∷ rs) s e = row-apart kind g (bs ++ l ∷ []) r rs s (e ∙ sym (append_assoc bs (l ∷ []) (r ∷ rs)))

front-apart : (bs : List Listed) (l : Listed) (rs : List Listed) → FirstApart (bs ++ l ∷ []) rs → FirstApart bs rs
front-apart bs l [] h = tt
front-apart bs l (r ∷ rs) h = each-front (λ k. eqb k.page r.page ≡ false) bs (l ∷ []) h

abbrev pub IsThere : Option ℕ → List Listed → Type 0
IsThere next pages = IfSome next (λ p. has_page p pages ≡ true)

next-there : (pages bs rs : List Listed) → pages ≡ bs ++ rs → IsThere (first_page rs) pages
next-there pages bs [] e = tt
next-there pages bs (r ∷ rs) e = ap (λ (zs : List Listed). has_page r.page zs) e ∙ in-middle bs r rs

abbrev pub steps_left : Option ℕ → List Bool → List Listed → ℕ
steps_left next m pages = length (rest_of next pages) + length (marked_of m (rest_of next pages))

pub record Steps (kind : Kind) (g g' : Gens) (m m' : List Bool) (next next' : Option ℕ) : Type 0 where
  pub gens : with_pages kind (ending next' g'.max_seq m' (row_of kind g').pages) g' ≡ with_pages kind (ending next g.max_seq m (row_of kind g).pages) g
  pub marks : cleared (rest_of next' (row_of kind g').pages) m' ≡ cleared (rest_of next (row_of kind g).pages) m
  pub there : IsThere next' (row_of kind g').pages
  pub less : steps_left next' m' (row_of kind g').pages < steps_left next m (row_of kind g).pages

left-by : (next : Option ℕ) (m : List Bool) (pages bs rs : List Listed) → Parted next pages bs rs → steps_left next m pages ≡ length rs + length (marked_of m rs)
left-by next m pages bs rs p = ap (λ (zs : List Listed). length zs + length (marked_of m zs)) p.rest

steps-over : (kind : Kind) (g : Gens) (m : List Bool) (p : ℕ) → IsGens g → has_page p (row_of kind g).pages ≡ true → is_marked m p ≡ false → Steps kind g g m m (Some p) (after_in p (row_of kind g).pages)
steps-over kind g m p s h k =
    let pages : List Listed = (row_of kind g).pages in
    let a = at pages p h in
    let k' : has_mark m a.here ≡ false = ap (λ (q : ℕ). is_marked m q) a.page ∙ k in
    let more : pages ≡ (a.before ++ a.here ∷ []) ++ a.rest = a.is ∙ sym (append_assoc a.before (a.here ∷ []) a.rest) in
    let now : Parted (Some a.here.page) pages a.before (a.here ∷ a.rest) = parted-here pages a.before a.here a.rest a.is (row-apart kind g a.before a.here a.rest s a.is) in
    let then : Parted (first_page a.rest) pages (a.before ++ a.here ∷ []) a.rest = parted-next pages (a.before ++ a.here ∷ []) a.rest more (first-apart kind g a.before a.here a.rest s a.is) in
    let ma : marked_of m (a.here ∷ a.rest) ≡ marked_of m a.rest = rw k' refl in
    let ma_length : length (marked_of m (a.here ∷ a.rest)) ≡ length (marked_of m a.rest) = ap (λ (zs : List Listed). length zs) ma in
    let left_now = left-by (Some a.here.page) m pages a.before (a.here ∷ a.rest) now in
    let left_then = left-by (first_page a.rest) m pages (a.before ++ a.here ∷ []) a.rest then in
    let steps : Steps kind g g m m (Some a.here.page) (first_page a.rest) = record {
      gens =
          ap (λ (zs : List Listed). with_pages kind zs g)
          (ending-by (first_page a.rest) g.max_seq m pages (a.before ++ a.here ∷ []) a.rest then ∙ pass-parts g.max_seq m a.before a.here a.rest k'
          ∙ sym (ending-by (Some a.here.page) g.max_seq m pages a.before (a.here ∷ a.rest) now));
      marks = ap (λ (zs : List Listed). cleared zs m) then.rest ∙ sym (ap (λ (zs : List Listed). cleared zs m) now.rest ∙ ap (λ (zs : List Bool). cleared a.rest zs) (set-unmarked m a.here.page k'));
      there = next-there pages (a.before ++ a.here ∷ []) a.rest more;
      less = omega (arith, left_now, left_then, ma_length);
    } in
    subst (λ (n : Option ℕ). Steps kind g g m m (Some p) n) (sym a.next) (subst (λ (q : ℕ). Steps kind g g m m (Some q) (first_page a.rest)) a.page steps)

steps-by : (kind : Kind) (g : Gens) (m : List Bool) (bs : List Listed) (l : Listed) (rs : List Listed) (xs bs' rs' : List Listed) (next' : Option ℕ) → IsGens g → (row_of kind g).pages ≡ bs ++ l ∷ rs → has_mark m l ≡ true
    → Parted next' xs bs' rs' → bs' ++ (unmarked_of (set m l.page false) rs' ++ map (at_seq g.max_seq) (marked_of (set m l.page false) rs')) ≡ bs ++ (unmarked_of m (l ∷ rs) ++ map (at_seq g.max_seq) (marked_of m (l ∷ rs)))
    → cleared rs' (set m l.page false) ≡ cleared (l ∷ rs) m → IsThere next' xs → length rs' + length (marked_of (set m l.page false) rs') < length (l ∷ rs) + length (marked_of m (l ∷ rs))
    → Steps kind g (with_pages kind xs g) m (set m l.page false) (Some l.page) next'
steps-by kind g m bs l rs xs bs' rs' next' s e k p whole marks there less =
    let m' : List Bool = set m l.page false in
    let pages : List Listed = (row_of kind g).pages in
    let row : (row_of kind (with_pages kind xs g)).pages ≡ xs = row-with kind xs g in
    let p' : Parted next' (row_of kind (with_pages kind xs g)).pages bs' rs' = subst (λ (zs : List Listed). Parted next' zs bs' rs') (sym row) p in
    let now : Parted (Some l.page) pages bs (l ∷ rs) = parted-here pages bs l rs e (row-apart kind g bs l rs s e) in
    let left_now = left-by (Some l.page) m pages bs (l ∷ rs) now in
    let left_then = left-by next' m' (row_of kind (with_pages kind xs g)).pages bs' rs' p' in
    record {
      gens =
          with-with kind (ending next' g.max_seq m' (row_of kind (with_pages kind xs g)).pages) xs g
          ∙ ap (λ (zs : List Listed). with_pages kind zs g)
          (ending-by next' g.max_seq m' (row_of kind (with_pages kind xs g)).pages bs' rs' p' ∙ whole ∙ sym (ending-by (Some l.page) g.max_seq m pages bs (l ∷ rs) now));
      marks = ap (λ (zs : List Listed). cleared zs m') p'.rest ∙ marks ∙ sym (ap (λ (zs : List Listed). cleared zs m) now.rest);
      there = subst (λ (zs : List Listed). IsThere next' zs) (sym row) there;
      less = omega (arith, left_now, left_then, less);
    }

steps-moved : (kind : Kind) (g : Gens) (m : List Bool) (bs : List Listed) (l : Listed) (rs : List Listed) → IsGens g → (row_of kind g).pages ≡ bs ++ l ∷ rs → has_mark m l ≡ true
    → Steps kind g (with_pages kind (bs ++ (rs ++ at_seq g.max_seq l ∷ [])) g) m (set m l.page false) (Some l.page) (first_page rs)
steps-moved kind g m bs l [] s e k =
    let xs : List Listed = bs ++ at_seq g.max_seq l ∷ [] in
    steps-by kind g m bs l [] xs xs [] None s e k (parted-end xs) (move-last g.max_seq m bs l k) refl tt (omega arith)
steps-moved kind g m bs l (r ∷ rs) s e k =
    let m' : List Bool = set m l.page false in
    let tail : List Listed = (r ∷ rs) ++ at_seq g.max_seq l ∷ [] in
    let xs : List Listed = bs ++ tail in
    let a = (row-parts kind g bs l (r ∷ rs) s e).1 in
    let first = front-apart bs l (r ∷ rs) (first-apart kind g bs l (r ∷ rs) s e) in
    let ma : marked_of m (l ∷ r ∷ rs) ≡ l ∷ marked_of m (r ∷ rs) = rw k refl in
    let ma_length : length (marked_of m (l ∷ r ∷ rs)) ≡ length (marked_of m (r ∷ rs)) + 1 = ap (λ (zs : List Listed). length zs) ma ∙ omega arith in
    let moved_length : length (marked_of m' tail) ≡ length (marked_of m (r ∷ rs)) = ap (λ (zs : List Listed). length zs) (moved-marked g.max_seq m l (r ∷ rs) a) in
    let tail_length : length tail ≡ length (r ∷ rs) + 1 = length-append (r ∷ rs) (at_seq g.max_seq l ∷ []) in
    steps-by kind g m bs l (r ∷ rs) xs bs tail (Some r.page) s e k (parted-next xs bs tail refl first) (move-parts g.max_seq m bs l (r ∷ rs) k a) (move-cleared g.max_seq m l (r ∷ rs)) (in-middle bs r (rs ++ at_seq g.max_seq l ∷ []))
    (omega (arith, ma_length, moved_length, tail_length))

steps-to-tail : (kind : Kind) (g g' : Gens) (m m' : List Bool) (p : ℕ) → IsGens g → has_page p (row_of kind g).pages ≡ true → is_marked m p ≡ true
    → g' ≡ added p kind g.max_seq (isolated p g) → m' ≡ set m p false → Steps kind g g' m m' (Some p) (after_in p (row_of kind g).pages)
steps-to-tail kind g g' m m' p s h k eg em =
    let a = at (row_of kind g).pages p h in
    let k' : has_mark m a.here ≡ true = ap (λ (q : ℕ). is_marked m q) a.page ∙ k in
    let xs : List Listed = a.before ++ (a.rest ++ at_seq g.max_seq a.here ∷ []) in
    let whole : g' ≡ with_pages kind xs g = eg ∙ sym (ap (λ (q : ℕ). added q kind g.max_seq (isolated q g)) a.page) ∙ moved kind g a.before a.here a.rest s a.is in
    let marks : m' ≡ set m a.here.page false = em ∙ sym (ap (λ (q : ℕ). set m q false) a.page) in
    subst (λ (n : Option ℕ). Steps kind g g' m m' (Some p) n) (sym a.next)
    (subst (λ (q : ℕ). Steps kind g g' m m' (Some q) (first_page a.rest)) a.page
    (subst (λ (x : Gens). Steps kind g x m m' (Some a.here.page) (first_page a.rest)) (sym whole)
    (subst (λ (x : List Bool). Steps kind g (with_pages kind xs g) m x (Some a.here.page) (first_page a.rest)) (sym marks) (steps-moved kind g m a.before a.here a.rest s a.is k'))))

pub next-is : (pages : List Listed) (next : Option ℕ) (p : ℕ) → next ≡ Some p → IsThere next pages → has_page p pages ≡ true
next-is pages next p e h = subst (λ (n : Option ℕ). IsThere n pages) e h

-- an unmarked page is passed by
pub passes : (kind : Kind) (g : Gens) (m : List Bool) (p : ℕ) (next next' : Option ℕ) → IsGens g → next ≡ Some p → IsThere next (row_of kind g).pages → is_marked m p ≡ false → next' ≡ after_in p (row_of kind g).pages → Steps kind g g m m next next'
passes kind g m p next next' s e h k e' =
    subst (λ (n : Option ℕ). Steps kind g g m m n next') (sym e)
    (subst (λ (n : Option ℕ). Steps kind g g m m (Some p) n) (sym e') (steps-over kind g m p s (next-is (row_of kind g).pages next p e h) k))

-- a marked page goes to the tail
pub moves : (kind : Kind) (g g' : Gens) (m m' : List Bool) (p : ℕ) (next next' : Option ℕ) → IsGens g → next ≡ Some p → IsThere next (row_of kind g).pages → is_marked m p ≡ true → next' ≡ after_in p (row_of kind g).pages
    → g' ≡ added p kind g.max_seq (isolated p g) → m' ≡ set m p false → Steps kind g g' m m' next next'
moves kind g g' m m' p next next' s e h k e' eg em =
    subst (λ (n : Option ℕ). Steps kind g g' m m' n next') (sym e)
    (subst (λ (n : Option ℕ). Steps kind g g' m m' (Some p) n) (sym e') (steps-to-tail kind g g' m m' p s (next-is (row_of kind g).pages next p e h) k eg em))

-- ---- the start of the walk

pub record Starts (kind : Kind) (g : Gens) (m : List Bool) (next : Option ℕ) : Type 0 where
  pub gens : with_pages kind (ending next g.max_seq m (row_of kind g).pages) g ≡ on_row kind (promoted g.max_seq m) g
  pub marks : cleared (rest_of next (row_of kind g).pages) m ≡ cleared (row_of kind g).pages m
  pub there : IsThere next (row_of kind g).pages

pub starts : (kind : Kind) (g : Gens) (m : List Bool) (next : Option ℕ) → next ≡ first_page (row_of kind g).pages → Starts kind g m next
starts kind g m next e =
    let pages : List Listed = (row_of kind g).pages in
    let p = parted-next pages [] pages refl (nothing-before pages) in
    subst (λ (n : Option ℕ). Starts kind g m n) (sym e)
    (record {
      gens = ap (λ (zs : List Listed). with_pages kind zs g) (ending-by (first_page pages) g.max_seq m pages [] pages p) ∙ promoted-is kind m g;
      marks = ap (λ (zs : List Listed). cleared zs m) p.rest;
      there = next-there pages [] pages refl;
    })
  where
    nothing-before : (xs : List Listed) → FirstApart [] xs
    nothing-before [] = tt
    nothing-before (x ∷ xs) = tt
