-- What a search keeps: which pages are listed, their types, and the marks of other pages.
use Rattle.std.proofs.Common.{◌≡◌, ℕ, zero, suc, ◌+◌, ◌≢◌, ◌||◌, not, max, Bool, true, false, cond, eqb, List, [], ◌∷◌, ◌++◌, length, map, filter, Option, Some, option_map, slice_get, refl, sym, ap, ◌∙◌, subst, inl, inr, length-set, get_or-set_other}
use Rattle.std.specs.List.{AllByRecursion}
use Rattle.std.proofs.Math.Bool.{or_comm}
use Rattle.std.proofs.lemmas.Bool.{cases_eq, true≢false}
use Rattle.machine.specs.declared.record.Kind.{Kind}
use Rattle.machine.specs.declared.record.Kind.TheVariants.{Anon, File}
use Rattle.machine.specs.Generations.{Listed, Row, Gens, row_of, kind_of, at_seq, merged, has_page, is_listed, listed, IsGens}
use Rattle.machine.specs.Aging.{Seen, has_mark, is_marked, at_most_three, aged_row, aged}
use Rattle.machine.specs.Eviction.{old_pages, front_run, has_usable, to_tail, sent_back, passed_by, settled, aged_times, AgesToOld, Picks}
use Rattle.lru_gen.specs.Gens.{GensOf, gens_of}
use Rattle.aging.specs.Groups.{seen_at, ChangesOnly}
use Rattle.eviction.specs.Kept.{ListsSame}
use Rattle.page_lists.proofs.ListedLemmas.{each-weaker, has_page-append, none-in, has-split, has-renumbered, has-back, has-beside, each-has, listed-page}
use Rattle.page_lists.proofs.AgingLemmas.{length-cleared}
use Rattle.lru_gen.proofs.KindLemmas.{each_sent, kind_row, sound_apart}
use Rattle.aging.proofs.GroupLemmas.{only-other, only-then}
use Rattle.aging.proofs.AgeLemmas.{cleared-other}
use Rattle.eviction.proofs.ListLemmas.{each-front_run}
use Rattle.eviction.proofs.TurnLemmas.{each-old_pages, tail-sound}
use Rattle.eviction.proofs.AgeLemmas.{at-once, from-settled, picks-some, picks-cases}

-- ---- what is kept

pub record Keeps (from to : Seen) : Type 0 where
  pub file : (q : ℕ) → has_page q to.gens.file.pages ≡ has_page q from.gens.file.pages
  pub anon : (q : ℕ) → has_page q to.gens.anon.pages ≡ has_page q from.gens.anon.pages
  pub marks : (q : ℕ) → is_listed from.gens q ≡ false → is_marked to.marks q ≡ is_marked from.marks q
  pub size : length to.marks ≡ length from.marks

-- so each page is listed that was
pub same-listed : (old new : Gens) → ListsSame old new → (p : ℕ) → is_listed new p ≡ is_listed old p
same-listed old new same p = ap (λ (b : Bool). b || has_page p new.anon.pages) (same.file p) ∙ ap (λ (b : Bool). has_page p old.file.pages || b) (same.anon p)

kept-pages : (from to : Seen) → Keeps from to → ListsSame from.gens to.gens
kept-pages from to k = record { anon = k.anon; file = k.file }

pub kept-listed : (from to : Seen) → Keeps from to → (q : ℕ) → is_listed to.gens q ≡ is_listed from.gens q
kept-listed from to k = same-listed from.gens to.gens (kept-pages from to k)

kept-same : (s : Seen) → Keeps s s
kept-same s = record { file = λ q. refl; anon = λ q. refl; marks = λ q h. refl; size = refl }

kept-then : (a b c : Seen) → Keeps a b → Keeps b c → Keeps a c
kept-then a b c h k = record {
  file = λ q. k.file q ∙ h.file q;
  anon = λ q. k.anon q ∙ h.anon q;
  marks = λ q n. k.marks q (kept-listed a b h q ∙ n) ∙ h.marks q n;
  size = k.size ∙ h.size;
}

kept-settled : (a b : Seen) → Keeps a b → Keeps a (settled b)
kept-settled a b h = record { file = h.file; anon = h.anon; marks = h.marks; size = h.size }

-- ---- an aging

has-three : (top : ℕ) (q : ℕ) (row : Row) → has_page q (at_most_three top row).pages ≡ has_page q row.pages
has-three top q row =
    elim (eqb (row.min_seq + 3) top) as (λ b. has_page q (let r : Row = cond b (merged row) row in r).pages ≡ has_page q row.pages) [
      | true ↦ has-renumbered (λ l. max (row.min_seq + 1) l.seq) q row.pages
      | false ↦ refl
    ]

has-promoted : (seq : ℕ) (m : List Bool) (q : ℕ) (xs : List Listed) → has_page q (filter (λ l. not (has_mark m l)) xs ++ map (at_seq seq) (filter (has_mark m) xs)) ≡ has_page q xs
has-promoted seq m q xs =
    let un : List Listed = filter (λ l. not (has_mark m l)) xs in
    let ma : List Listed = filter (has_mark m) xs in
    has_page-append q un (map (at_seq seq) ma) ∙ ap (λ (b : Bool). has_page q un || b) (has-renumbered (λ l. seq) q ma) ∙ or_comm (has_page q un) (has_page q ma)
    ∙ has-split (has_mark m) (λ l. not (has_mark m l)) (λ l. refl) q xs

pub has-aged_row : (top : ℕ) (m : List Bool) (q : ℕ) (row : Row) → has_page q (aged_row top m row).pages ≡ has_page q row.pages
has-aged_row top m q row = has-promoted (top + 1) m q (at_most_three top row).pages ∙ has-three top q row

kept-aged : (s : Seen) → Keeps s (aged s)
kept-aged s = record {
  file = λ q. has-aged_row s.gens.max_seq s.marks q s.gens.file;
  anon = λ q. has-aged_row s.gens.max_seq s.marks q s.gens.anon;
  marks = λ q h. cleared-other (listed s.gens) s.marks q (none-in q (listed s.gens) (listed-page s.gens q ∙ h));
  size = length-cleared (listed s.gens) s.marks;
}

kept-aged_times : (n : ℕ) (s : Seen) → Keeps s (aged_times n s)
kept-aged_times zero s = kept-same s
kept-aged_times (suc n) s = kept-then s (aged (settled s)) (aged_times n (aged (settled s))) (kept-then s (settled s) (aged (settled s)) (kept-settled s s (kept-same s)) (kept-aged (settled s))) (kept-aged_times n (aged (settled s)))

-- ---- a page that is sent back

kept-tail : (s : Seen) (p : ℕ) → IsGens s.gens → is_listed s.gens p ≡ true → Keeps s (to_tail p s)
kept-tail s p g h =
    let x : Gens = s.gens in
    let k : Kind = kind_of x p in
    let there = kind_row x p h in
    let rows : (j : Kind) (q : ℕ) → has_page q (row_of j (to_tail p s).gens).pages ≡ has_page q (row_of j x).pages =
    λ j q.
    each_sent (λ i ps. has_page q ps ≡ has_page q (row_of i x).pages) k x p x.max_seq (has-back p x.max_seq q (row_of k x).pages there) (λ i differs.
    has-beside p q (row_of i x).pages (sound_apart g k i differs p there)) j in
    record {
      file = rows File;
      anon = rows Anon;
      marks = λ q n. (let ne : q ≢ p = λ e. true≢false (sym h ∙ subst (λ (i : ℕ). is_listed x i ≡ false) e n) in get_or-set_other s.marks p q false false ne);
      size = length-set s.marks p false;
    }

kept-sent : (ls : List Listed) (s : Seen) → IsGens s.gens → AllByRecursion (λ l. is_listed s.gens l.page ≡ true) ls → Keeps s (sent_back ls s)
kept-sent [] s g h = kept-same s
kept-sent (l ∷ ls) s g h =
    let next : Seen = to_tail l.page s in
    let k = kept-tail s l.page g h.0 in
    kept-then s next (sent_back ls next) k
    (kept-sent ls next (tail-sound l.page s g) (each-weaker (λ l. is_listed s.gens l.page ≡ true) (λ l. is_listed next.gens l.page ≡ true) (λ l e. kept-listed s next k l.page ∙ e) ls h.1))

each-listed : (swap : Bool) (g : Gens) → AllByRecursion (λ l. is_listed g l.page ≡ true) (old_pages swap g)
each-listed swap g =
    each-old_pages (λ l. is_listed g l.page ≡ true) swap g
    (each-weaker (λ l. has_page l.page (listed g) ≡ true) (λ l. is_listed g l.page ≡ true) (λ l e. sym (listed-page g l.page) ∙ e) (listed g) (each-has (listed g)))

kept-passed : (swap : Bool) (s : Seen) → IsGens s.gens → Keeps s (passed_by swap s)
kept-passed swap s g =
    kept-sent (front_run (has_mark s.marks) (old_pages swap s.gens)) s g
    (each-front_run (λ l. is_listed s.gens l.page ≡ true) (has_mark s.marks) (old_pages swap s.gens) (each-listed swap s.gens))

-- ---- the whole search

kept-ages : (swap : Bool) (from : Seen) (answer : Option ℕ) (to : Seen) → AgesToOld swap from answer to → Keeps from to
kept-ages swap from answer to a = subst (λ (x : Seen). Keeps from x) (sym a.leaves) (kept-settled from (aged_times a.times from) (kept-aged_times a.times from))

pub kept-picks : (swap : Bool) (from : Seen) (answer : Option ℕ) (to : Seen) → IsGens from.gens → Picks swap from answer to → Keeps from to
kept-picks swap from answer to g picks =
    picks-cases swap from answer to picks
    (λ some a. kept-then from (passed_by swap from) to (kept-passed swap from g) (kept-ages swap (passed_by swap from) answer to a))
    (λ none same. subst (λ (x : Seen). Keeps from x) (sym same) (kept-same from))

-- the answer of a search is listed
pub answer-listed : (swap : Bool) (from : Seen) (p : ℕ) (to : Seen) → AgesToOld swap from (Some p) to → is_listed to.gens p ≡ true
answer-listed swap from p to a =
    let end : Seen = aged_times a.times from in
    let all : AllByRecursion (λ l. is_listed end.gens l.page ≡ true) (a.first ∷ a.others) = subst (λ (zs : List Listed). AllByRecursion (λ l. is_listed end.gens l.page ≡ true) zs) a.old (each-listed swap end.gens) in
    let same : p ≡ a.first.page = (let e : Some p ≡ Some a.first.page = a.answers in cc) in
    subst (λ (x : Seen). is_listed x.gens p ≡ true) (sym a.leaves) (subst (λ (i : ℕ). is_listed end.gens i ≡ true) (sym same) all.0)

-- the lists of each group have the pages that they had
kept-same_pages : (g : ℕ) (s t : GensOf) (m m' : List Bool) → ChangesOnly g s t → Keeps (seen_at g s m) (seen_at g t m') → (h : ℕ) → ListsSame (gens_of s h) (gens_of t h)
kept-same_pages g s t m m' only k h =
    elim (cases_eq h g) [
      | inl same ↦ subst (λ (i : ℕ). ListsSame (gens_of s i) (gens_of t i)) (sym same) (kept-pages (seen_at g s m) (seen_at g t m') k)
      | inr other ↦ let same = only-other g s t only h other in record { anon = λ p. ap (λ (x : Gens). has_page p x.anon.pages) same; file = λ p. ap (λ (x : Gens). has_page p x.file.pages) same }
    ]

-- ---- an answer of the search

-- what holds of the page that a search answers
pub record Found (g : ℕ) (swap : Bool) (s t : GensOf) (m m' : List Bool) (p : ℕ) : Type 0 where
  pub picks : Picks swap (seen_at g s m) (Some p) (seen_at g t m')
  pub listed : is_listed (gens_of t g) p ≡ true
  pub pages : (h : ℕ) → ListsSame (gens_of s h) (gens_of t h)
  pub marks : (q : ℕ) → is_listed (gens_of s g) q ≡ false → is_marked m' q ≡ is_marked m q
  pub size : length m' ≡ length m

found : (g : ℕ) (swap : Bool) (s t : GensOf) (m m' : List Bool) (p : ℕ) → IsGens (gens_of s g) → has_usable swap (gens_of s g) ≡ true → ChangesOnly g s t → AgesToOld swap (passed_by swap (seen_at g s m)) (Some p) (seen_at g t m') → Found g swap s t m m' p
found g swap s t m m' p sound some only a =
    let picks = picks-some swap (seen_at g s m) (Some p) (seen_at g t m') some a in
    let keeps = kept-picks swap (seen_at g s m) (Some p) (seen_at g t m') sound picks in
    record {
      picks = picks;
      listed = answer-listed swap (passed_by swap (seen_at g s m)) p (seen_at g t m') a;
      pages = kept-same_pages g s t m m' only keeps;
      marks = keeps.marks;
      size = keeps.size;
    }

-- it was old at once
pub found-at-once : (g : ℕ) (swap : Bool) (s t : GensOf) (m m' : List Bool) (p : ℕ) → IsGens (gens_of s g) → has_usable swap (gens_of s g) ≡ true → ChangesOnly g s t
    → seen_at g t m' ≡ settled (passed_by swap (seen_at g s m)) → Some p ≡ option_map (λ (l : Listed). l.page) (slice_get (old_pages swap (gens_of t g)) 0) → Found g swap s t m m' p
found-at-once g swap s t m m' p sound some only e first = found g swap s t m m' p sound some only (at-once swap (passed_by swap (seen_at g s m)) (seen_at g t m') p e first)

-- or the group was aged for it, after the search among the old pages
pub found-aged : (g : ℕ) (swap : Bool) (s s1 t : GensOf) (m m1 m' : List Bool) (p : ℕ) → IsGens (gens_of s g) → has_usable swap (gens_of s g) ≡ true → ChangesOnly g s s1 → ChangesOnly g s1 t
    → seen_at g s1 m1 ≡ settled (passed_by swap (seen_at g s m)) → AgesToOld swap (seen_at g s1 m1) (Some p) (seen_at g t m') → Found g swap s t m m' p
found-aged g swap s s1 t m m1 m' p sound some only then e a =
    found g swap s t m m' p sound some (only-then g s s1 t only then)
    (from-settled swap (passed_by swap (seen_at g s m)) (Some p) (seen_at g t m') (subst (λ (x : Seen). AgesToOld swap x (Some p) (seen_at g t m')) e a))
