-- Lists of pages: what holds of each, which pages are there, and the tail of the youngest generation.
use Rattle.std.proofs.Common.{◌≡◌, ℕ, ◌<◌, ◌≤◌, not, ◌||◌, nat_le, nat_lt, Bool, true, false, cond, eqb, List, [], ◌∷◌, ◌++◌, map, filter, refl, sym, ap, ◌∙◌, subst, arith}
use Rattle.std.specs.List.{AllByRecursion}
use Rattle.std.proofs.Math.Bool.{or-true, or_comm}
use Rattle.std.proofs.lemmas.Bool.{lt-ltb, le-ltb, le-leb, ltb-true, leb-true, leb-false, eq-eqb, eqb-true, eqb-false, ne_eqb, or_left, or_right, true≢false}
use Rattle.machine.specs.Generations.{Listed, Gens, at_seq, has_page, is_listed, listed, without, entered, IsRising, AreDistinct}

pub each-append : (P : Listed → Type 0) (xs ys : List Listed) → AllByRecursion P xs → AllByRecursion P ys → AllByRecursion P (xs ++ ys)
each-append P [] ys h k = k
each-append P (x ∷ xs) ys h k = (h.0, each-append P xs ys h.1 k)

pub each-front : (P : Listed → Type 0) (xs ys : List Listed) → AllByRecursion P (xs ++ ys) → AllByRecursion P xs
each-front P [] ys h = tt
each-front P (x ∷ xs) ys h = (h.0, each-front P xs ys h.1)

pub each-back : (P : Listed → Type 0) (xs ys : List Listed) → AllByRecursion P (xs ++ ys) → AllByRecursion P ys
each-back P [] ys h = h
each-back P (x ∷ xs) ys h = each-back P xs ys h.1

pub each-filter : (P : Listed → Type 0) (test : Listed → Bool) (xs : List Listed) → AllByRecursion P xs → AllByRecursion P (filter test xs)
each-filter P test [] h = tt
each-filter P test (x ∷ xs) h =
    elim (test x) as (λ b. AllByRecursion P (cond b (x ∷ filter test xs) (filter test xs))) [
      | true ↦ (h.0, each-filter P test xs h.1)
      | false ↦ each-filter P test xs h.1
    ]

pub each-map : (P Q : Listed → Type 0) (f : Listed → Listed) → ((l : Listed) → P l → Q (f l)) → (xs : List Listed) → AllByRecursion P xs → AllByRecursion Q (map f xs)
each-map P Q f step [] h = tt
each-map P Q f step (x ∷ xs) h = (step x h.0, each-map P Q f step xs h.1)

pub each-weaker : (P Q : Listed → Type 0) → ((l : Listed) → P l → Q l) → (xs : List Listed) → AllByRecursion P xs → AllByRecursion Q xs
each-weaker P Q step [] h = tt
each-weaker P Q step (x ∷ xs) h = (step x h.0, each-weaker P Q step xs h.1)

pub has_page-append : (p : ℕ) (xs ys : List Listed) → has_page p (xs ++ ys) ≡ (has_page p xs || has_page p ys)
has_page-append p [] ys = refl
has_page-append p (x ∷ xs) ys =
    elim (eqb x.page p) as (λ b. (b || has_page p (xs ++ ys)) ≡ ((b || has_page p xs) || has_page p ys)) [ true ↦ refl | false ↦ has_page-append p xs ys ]

-- a page that is not there, gives something of each
pub none-in : (p : ℕ) (xs : List Listed) → has_page p xs ≡ false → AllByRecursion (λ l. eqb l.page p ≡ false) xs
none-in p [] h = tt
none-in p (x ∷ xs) h =
    let go : (b : Bool) → eqb x.page p ≡ b → (b || has_page p xs) ≡ false → AllByRecursion (λ l. eqb l.page p ≡ false) (x ∷ xs) =
    λ b e q. (elim b as (λ v. eqb x.page p ≡ v → (v || has_page p xs) ≡ false → AllByRecursion (λ l. eqb l.page p ≡ false) (x ∷ xs)) [
      | true ↦ λ e' q'. absurd (true≢false q')
      | false ↦ λ e' q'. (e', none-in p xs q')
    ]) e q in
    go (eqb x.page p) refl h

pub in-none : (p : ℕ) (xs : List Listed) → AllByRecursion (λ l. eqb l.page p ≡ false) xs → has_page p xs ≡ false
in-none p [] h = refl
in-none p (x ∷ xs) h = rw h.0 (in-none p xs h.1)

pub has_page-without : (p : ℕ) (xs : List Listed) → has_page p (without p xs) ≡ false
has_page-without p [] = refl
has_page-without p (x ∷ xs) =
    let go : (b : Bool) → eqb x.page p ≡ b → has_page p (cond (not b) (x ∷ without p xs) (without p xs)) ≡ false =
    λ b e. (elim b as (λ v. eqb x.page p ≡ v → has_page p (cond (not v) (x ∷ without p xs) (without p xs)) ≡ false) [
      | true ↦ λ e'. has_page-without p xs
      | false ↦ λ e'. rw e' (has_page-without p xs)
    ]) e in
    go (eqb x.page p) refl

pub without-all : (p : ℕ) (xs : List Listed) → AllByRecursion (λ l. eqb l.page p ≡ false) xs → without p xs ≡ xs
without-all p [] h = refl
without-all p (x ∷ xs) h = rw h.0 (ap (λ ys. x ∷ ys) (without-all p xs h.1))

pub all-up_to : (top : ℕ) (xs : List Listed) → AllByRecursion (λ l. l.seq ≤ top) xs → filter (λ l. nat_le l.seq top) xs ≡ xs
all-up_to top [] h = refl
all-up_to top (x ∷ xs) h = let le : x.seq ≤ top = h.0 in rw le-leb (ap (λ ys. x ∷ ys) (all-up_to top xs h.1))

pub none-above : (top : ℕ) (xs : List Listed) → AllByRecursion (λ l. l.seq ≤ top) xs → filter (λ l. nat_lt top l.seq) xs ≡ []
none-above top [] h = refl
none-above top (x ∷ xs) h = let le : x.seq ≤ top = h.0 in rw le-ltb (none-above top xs h.1)

pub top-each : (top low : ℕ) (pages : List Listed) → AllByRecursion (λ l. (low ≤ l.seq) × (l.seq ≤ top)) pages → AllByRecursion (λ l. l.seq ≤ top) pages
top-each top low [] w = tt
top-each top low (l ∷ ls) w = (w.0.1, top-each top low ls w.1)

pub distinct-middle : (gs : List Listed) (l : Listed) (fs : List Listed) → AreDistinct (gs ++ l ∷ fs) → (has_page l.page gs ≡ false) × (has_page l.page fs ≡ false)
distinct-middle [] l fs h = (refl, h.0)
distinct-middle (g ∷ gs) l fs h =
    let ne : eqb l.page g.page ≡ false = (each-back (λ k. eqb k.page g.page ≡ false) gs (l ∷ fs) (none-in g.page (gs ++ l ∷ fs) h.0)).0 in
    let en : eqb g.page l.page ≡ false = ne_eqb g.page l.page (λ q. eqb-false l.page g.page ne (sym q)) in
    let rest = distinct-middle gs l fs h.1 in
    (rw en rest.0, rest.1)

pub distinct-first : (l : Listed) (gs fs : List Listed) → AreDistinct ((l ∷ gs) ++ fs) → (has_page l.page gs ≡ false) × (has_page l.page fs ≡ false)
distinct-first l gs fs h =
    let all = none-in l.page (gs ++ fs) h.0 in
    (in-none l.page gs (each-front (λ k. eqb k.page l.page ≡ false) gs fs all), in-none l.page fs (each-back (λ k. eqb k.page l.page ≡ false) gs fs all))

pub entered-tail : (p top : ℕ) (xs : List Listed) → AllByRecursion (λ l. l.seq ≤ top) xs → entered p top xs ≡ xs ++ record { page = p; seq = top } ∷ []
entered-tail p top xs h = rw (all-up_to top xs h, none-above top xs h) refl

pub without-first : (l : Listed) (xs : List Listed) → has_page l.page xs ≡ false → without l.page (l ∷ xs) ≡ xs
without-first l xs h = rw (eq-eqb l.page l.page refl) (without-all l.page xs (none-in l.page xs h))

-- ---- tests joined

pub or-behind : (e a b h : Bool) → (a || b) ≡ h → (a || (e || b)) ≡ (e || h)
or-behind true a b h k = or-true a
or-behind false a b h k = k

pub or-front : (e a b h : Bool) → (a || b) ≡ h → ((e || a) || b) ≡ (e || h)
or-front true a b h k = refl
or-front false a b h k = k

-- ---- which pages a list has

-- a list in two parts, by a test and its opposite
pub has-split : (test other : Listed → Bool) → ((l : Listed) → other l ≡ not (test l)) → (q : ℕ) (xs : List Listed) → (has_page q (filter test xs) || has_page q (filter other xs)) ≡ has_page q xs
has-split test other opposite q [] = refl
has-split test other opposite q (x ∷ xs) =
    let k = has-split test other opposite q xs in
    let go : (b : Bool) → (has_page q (cond b (x ∷ filter test xs) (filter test xs)) || has_page q (cond (not b) (x ∷ filter other xs) (filter other xs))) ≡ (eqb x.page q || has_page q xs) =
    λ b. elim b as (λ v. (has_page q (cond v (x ∷ filter test xs) (filter test xs)) || has_page q (cond (not v) (x ∷ filter other xs) (filter other xs))) ≡ (eqb x.page q || has_page q xs)) [
      | true ↦ or-front (eqb x.page q) (has_page q (filter test xs)) (has_page q (filter other xs)) (has_page q xs) k
      | false ↦ or-behind (eqb x.page q) (has_page q (filter test xs)) (has_page q (filter other xs)) (has_page q xs) k
    ] in
    ap (λ (b : Bool). has_page q (filter test (x ∷ xs)) || has_page q (cond b (x ∷ filter other xs) (filter other xs))) (opposite x) ∙ go (test x)

pub has-renumbered : (number : Listed → ℕ) (q : ℕ) (xs : List Listed) → has_page q (map (λ l. at_seq (number l) l) xs) ≡ has_page q xs
has-renumbered number q [] = refl
has-renumbered number q (x ∷ xs) = ap (λ (b : Bool). eqb x.page q || b) (has-renumbered number q xs)

pub opposite-numbers : (a b : ℕ) → nat_lt b a ≡ not (nat_le a b)
opposite-numbers a b =
    let go : (v : Bool) → nat_le a b ≡ v → nat_lt b a ≡ not v =
    λ v t. (elim v as (λ w. nat_le a b ≡ w → nat_lt b a ≡ not w) [ true ↦ λ t'. (let le : a ≤ b = leb-true a b t' in rw le-ltb refl) | false ↦ λ t'. (let lt : b < a = leb-false a b t' in rw lt-ltb refl) ]) t in
    go (nat_le a b) refl

pub has-entered : (p seq q : ℕ) (xs : List Listed) → has_page q (entered p seq xs) ≡ (eqb p q || has_page q xs)
has-entered p seq q xs =
    has_page-append q (filter (λ l. nat_le l.seq seq) xs) (record { page = p; seq = seq } ∷ filter (λ l. nat_lt seq l.seq) xs)
    ∙ or-behind (eqb p q) (has_page q (filter (λ l. nat_le l.seq seq) xs)) (has_page q (filter (λ l. nat_lt seq l.seq) xs)) (has_page q xs)
    (has-split (λ l. nat_le l.seq seq) (λ l. nat_lt seq l.seq) (λ l. opposite-numbers l.seq seq) q xs)

pub without-other : (p q : ℕ) (xs : List Listed) → eqb p q ≡ false → has_page q (without p xs) ≡ has_page q xs
without-other p q [] ne = refl
without-other p q (x ∷ xs) ne =
    let k = without-other p q xs ne in
    let go : (b : Bool) → eqb x.page p ≡ b → has_page q (cond (not b) (x ∷ without p xs) (without p xs)) ≡ (eqb x.page q || has_page q xs) =
    λ b t. (elim b as (λ v. eqb x.page p ≡ v → has_page q (cond (not v) (x ∷ without p xs) (without p xs)) ≡ (eqb x.page q || has_page q xs)) [
      | true ↦ λ t'. k ∙ ap (λ (v : Bool). v || has_page q xs) (sym (ap (λ (n : ℕ). eqb n q) (eqb-true x.page p t') ∙ ne))
      | false ↦ λ t'. ap (λ (v : Bool). eqb x.page q || v) k
    ]) t in
    go (eqb x.page p) refl

-- a page that leaves its row and enters it again
pub has-back : (p seq q : ℕ) (xs : List Listed) → has_page p xs ≡ true → has_page q (entered p seq (without p xs)) ≡ has_page q xs
has-back p seq q xs h =
    let go : (b : Bool) → eqb p q ≡ b → (b || has_page q (without p xs)) ≡ has_page q xs =
    λ b t. (elim b as (λ v. eqb p q ≡ v → (v || has_page q (without p xs)) ≡ has_page q xs) [
      | true ↦ λ t'. sym (subst (λ (n : ℕ). has_page n xs ≡ true) (eqb-true p q t') h)
      | false ↦ λ t'. without-other p q xs t'
    ]) t in
    has-entered p seq q (without p xs) ∙ go (eqb p q) refl

-- the other row does not have it
pub has-beside : (p q : ℕ) (xs : List Listed) → has_page p xs ≡ false → has_page q (without p xs) ≡ has_page q xs
has-beside p q xs h = ap (λ (zs : List Listed). has_page q zs) (without-all p xs (none-in p xs h))

-- each page that a list has
pub each-has : (xs : List Listed) → AllByRecursion (λ l. has_page l.page xs ≡ true) xs
each-has [] = tt
each-has (x ∷ xs) = (rw (eq-eqb x.page x.page refl) refl, each-weaker (λ l. has_page l.page xs ≡ true) (λ l. has_page l.page (x ∷ xs) ≡ true) (λ l e. ap (λ (b : Bool). eqb x.page l.page || b) e ∙ or-true (eqb x.page l.page)) xs (each-has xs))

pub listed-page : (g : Gens) (q : ℕ) → has_page q (listed g) ≡ is_listed g q
listed-page g q = has_page-append q g.anon.pages g.file.pages ∙ or_comm (has_page q g.anon.pages) (has_page q g.file.pages)

-- ---- parts of a list

-- each page that passes a test
pub each-test : (test : Listed → Bool) (xs : List Listed) → AllByRecursion (λ l. test l ≡ true) (filter test xs)
each-test test [] = tt
each-test test (x ∷ xs) =
    let go : (b : Bool) → test x ≡ b → AllByRecursion (λ l. test l ≡ true) (cond b (x ∷ filter test xs) (filter test xs)) =
    λ b t. (elim b as (λ v. test x ≡ v → AllByRecursion (λ l. test l ≡ true) (cond v (x ∷ filter test xs) (filter test xs))) [
      | true ↦ λ t'. (t', each-test test xs)
      | false ↦ λ t'. each-test test xs
    ]) t in
    go (test x) refl

pub none-filter : (test : Listed → Bool) (p : ℕ) (xs : List Listed) → has_page p xs ≡ false → has_page p (filter test xs) ≡ false
none-filter test p xs h = in-none p (filter test xs) (each-filter (λ l. eqb l.page p ≡ false) test xs (none-in p xs h))

-- what a part has, the whole has
pub has-filter : (test : Listed → Bool) (p : ℕ) (xs : List Listed) → has_page p (filter test xs) ≡ true → has_page p xs ≡ true
has-filter test p xs h =
    let go : (b : Bool) → has_page p xs ≡ b → b ≡ true =
    λ b t. (elim b as (λ v. has_page p xs ≡ v → v ≡ true) [ true ↦ λ t'. refl | false ↦ λ t'. absurd (true≢false (sym h ∙ none-filter test p xs t')) ]) t in
    go (has_page p xs) refl

pub rising-filter : (test : Listed → Bool) (xs : List Listed) → IsRising xs → IsRising (filter test xs)
rising-filter test [] h = tt
rising-filter test (x ∷ xs) h =
    elim (test x) as (λ b. IsRising (cond b (x ∷ filter test xs) (filter test xs))) [
      | true ↦ (each-filter (λ k. x.seq ≤ k.seq) test xs h.0, rising-filter test xs h.1)
      | false ↦ rising-filter test xs h.1
    ]

-- of two rows none in the first is above a number, and none in the second below it
pub rising-append : (top : ℕ) (xs ys : List Listed) → AllByRecursion (λ l. l.seq ≤ top) xs → AllByRecursion (λ l. top ≤ l.seq) ys → IsRising xs → IsRising ys → IsRising (xs ++ ys)
rising-append top [] ys low high r q = q
rising-append top (x ∷ xs) ys low high r q =
    let le : x.seq ≤ top = low.0 in
    (each-append (λ k. x.seq ≤ k.seq) xs ys r.0 (each-weaker (λ k. top ≤ k.seq) (λ k. x.seq ≤ k.seq) (λ l h. omega arith) ys high), rising-append top xs ys low.1 high r.1 q)

pub distinct-filter : (test : Listed → Bool) (xs : List Listed) → AreDistinct xs → AreDistinct (filter test xs)
distinct-filter test [] h = tt
distinct-filter test (x ∷ xs) h =
    elim (test x) as (λ b. AreDistinct (cond b (x ∷ filter test xs) (filter test xs))) [
      | true ↦ (none-filter test x.page xs h.0, distinct-filter test xs h.1)
      | false ↦ distinct-filter test xs h.1
    ]

pub distinct-front : (xs ys : List Listed) → AreDistinct (xs ++ ys) → AreDistinct xs
distinct-front [] ys h = tt
distinct-front (x ∷ xs) ys h = ((distinct-first x xs ys h).0, distinct-front xs ys h.1)

pub distinct-back : (xs ys : List Listed) → AreDistinct (xs ++ ys) → AreDistinct ys
distinct-back [] ys h = h
distinct-back (x ∷ xs) ys h = distinct-back xs ys h.1

-- what the first has, the second has not
pub distinct-apart : (xs ys : List Listed) → AreDistinct (xs ++ ys) → (p : ℕ) → has_page p xs ≡ true → has_page p ys ≡ false
distinct-apart [] ys h p e = absurd (true≢false (sym e))
distinct-apart (x ∷ xs) ys h p e =
    let go : (b : Bool) → eqb x.page p ≡ b → (b || has_page p xs) ≡ true → has_page p ys ≡ false =
    λ b t k. (elim b as (λ v. eqb x.page p ≡ v → (v || has_page p xs) ≡ true → has_page p ys ≡ false) [
      | true ↦ λ t' k'. subst (λ (n : ℕ). has_page n ys ≡ false) (eqb-true x.page p t') (distinct-first x xs ys h).1
      | false ↦ λ t' k'. distinct-apart xs ys h.1 p k'
    ]) t k in
    go (eqb x.page p) refl e

pub distinct-append : (xs ys : List Listed) → AreDistinct xs → AreDistinct ys → ((p : ℕ) → has_page p xs ≡ true → has_page p ys ≡ false) → AreDistinct (xs ++ ys)
distinct-append [] ys d e apart = e
distinct-append (x ∷ xs) ys d e apart = (
  has_page-append x.page xs ys ∙ ap (λ (b : Bool). b || has_page x.page ys) d.0 ∙ apart x.page (or_left (eqb x.page x.page) (has_page x.page xs) (eq-eqb x.page x.page refl)),
  distinct-append xs ys d.1 e (λ p h. apart p (or_right (eqb x.page p) (has_page p xs) h)),
)

-- two parts, by a test and its opposite
pub distinct-split : (test other : Listed → Bool) → ((l : Listed) → other l ≡ not (test l)) → (xs : List Listed) → AreDistinct xs → (p : ℕ) → has_page p (filter test xs) ≡ true → has_page p (filter other xs) ≡ false
distinct-split test other opposite [] h p e = refl
distinct-split test other opposite (x ∷ xs) h p e =
    let front : (b : Bool) → eqb x.page p ≡ b → (b || has_page p (filter test xs)) ≡ true → has_page p (filter other xs) ≡ false =
    λ b t k. (elim b as (λ v. eqb x.page p ≡ v → (v || has_page p (filter test xs)) ≡ true → has_page p (filter other xs) ≡ false) [
      | true ↦ λ t' k'. subst (λ (n : ℕ). has_page n (filter other xs) ≡ false) (eqb-true x.page p t') (none-filter other x.page xs h.0)
      | false ↦ λ t' k'. distinct-split test other opposite xs h.1 p k'
    ]) t k in
    let behind : has_page p (filter test xs) ≡ true → (b : Bool) → eqb x.page p ≡ b → (b || has_page p (filter other xs)) ≡ false =
    λ k b t. (elim b as (λ v. eqb x.page p ≡ v → (v || has_page p (filter other xs)) ≡ false) [
      | true ↦ λ t'. absurd (true≢false (sym (has-filter test p xs k) ∙ subst (λ (n : ℕ). has_page n xs ≡ false) (eqb-true x.page p t') h.0))
      | false ↦ λ t'. distinct-split test other opposite xs h.1 p k
    ]) t in
    let go : (b : Bool) → has_page p (cond b (x ∷ filter test xs) (filter test xs)) ≡ true → has_page p (cond (not b) (x ∷ filter other xs) (filter other xs)) ≡ false =
    λ b. elim b as (λ v. has_page p (cond v (x ∷ filter test xs) (filter test xs)) ≡ true → has_page p (cond (not v) (x ∷ filter other xs) (filter other xs)) ≡ false) [
      | true ↦ λ k. front (eqb x.page p) refl k
      | false ↦ λ k. behind k (eqb x.page p) refl
    ] in
    ap (λ (v : Bool). has_page p (cond v (x ∷ filter other xs) (filter other xs))) (opposite x) ∙ go (test x) e

-- ---- a page that enters

pub each-entered : (P : Listed → Type 0) (p seq : ℕ) (xs : List Listed) → P (record { page = p; seq = seq }) → AllByRecursion P xs → AllByRecursion P (entered p seq xs)
each-entered P p seq xs h k =
    each-append P (filter (λ l. nat_le l.seq seq) xs) (record { page = p; seq = seq } ∷ filter (λ l. nat_lt seq l.seq) xs) (each-filter P (λ l. nat_le l.seq seq) xs k) (h, each-filter P (λ l. nat_lt seq l.seq) xs k)

pub rising-entered : (p seq : ℕ) (xs : List Listed) → IsRising xs → IsRising (entered p seq xs)
rising-entered p seq xs r =
    let low = each-weaker (λ l. nat_le l.seq seq ≡ true) (λ l. l.seq ≤ seq) (λ l t. leb-true l.seq seq t) (filter (λ l. nat_le l.seq seq) xs) (each-test (λ l. nat_le l.seq seq) xs) in
    let high = each-weaker (λ l. nat_lt seq l.seq ≡ true) (λ l. seq ≤ l.seq) (λ l t. (let lt : seq < l.seq = ltb-true seq l.seq t in omega arith)) (filter (λ l. nat_lt seq l.seq) xs) (each-test (λ l. nat_lt seq l.seq) xs) in
    rising-append seq (filter (λ l. nat_le l.seq seq) xs) (record { page = p; seq = seq } ∷ filter (λ l. nat_lt seq l.seq) xs) low (omega arith, high) (rising-filter (λ l. nat_le l.seq seq) xs r)
    (high, rising-filter (λ l. nat_lt seq l.seq) xs r)

pub distinct-entered : (p seq : ℕ) (xs : List Listed) → has_page p xs ≡ false → AreDistinct xs → AreDistinct (entered p seq xs)
distinct-entered p seq xs none d =
    let low : List Listed = filter (λ l. nat_le l.seq seq) xs in
    let high : List Listed = filter (λ l. nat_lt seq l.seq) xs in
    let apart : (q : ℕ) → has_page q low ≡ true → (eqb p q || has_page q high) ≡ false =
    λ q h.
    let other : (b : Bool) → eqb p q ≡ b → b ≡ false =
    λ b t. (elim b as (λ v. eqb p q ≡ v → v ≡ false) [
      | true ↦ λ t'. absurd (true≢false (sym h ∙ subst (λ (n : ℕ). has_page n low ≡ false) (eqb-true p q t') (none-filter (λ l. nat_le l.seq seq) p xs none)))
      | false ↦ λ t'. refl
    ]) t in
    ap (λ (b : Bool). b || has_page q high) (other (eqb p q) refl) ∙ distinct-split (λ l. nat_le l.seq seq) (λ l. nat_lt seq l.seq) (λ l. opposite-numbers l.seq seq) xs d q h in
    distinct-append low (record { page = p; seq = seq } ∷ high) (distinct-filter (λ l. nat_le l.seq seq) xs d)
    (none-filter (λ l. nat_lt seq l.seq) p xs none, distinct-filter (λ l. nat_lt seq l.seq) xs d) apart
