-- Rows whose oldest generation is not empty, or that have two generations.
use Rattle.std.proofs.Common.{◌≡◌, ℕ, ◌+◌, ◌-◌, ◌<◌, ◌≤◌, not, min, Bool, true, List, [], ◌∷◌, length, slice_get, Option, Some, None, option_map, is_some, refl, sym, ap, ◌∙◌, subst, arith}
use Rattle.std.specs.List.{AllByRecursion}
use Rattle.std.proofs.lemmas.Bool.{ltb-true, eq-eqb}
use Rattle.machine.specs.declared.record.Kind.{Kind}
use Rattle.machine.specs.declared.record.Kind.TheVariants.{Anon, File}
use Rattle.machine.specs.Generations.{Listed, Row, Gens, row_of, on_row, raised, IsRow, IsGens, IsRising, has_page, is_listed, kind_of}
use Rattle.machine.specs.Eviction.{is_old, old_of, least_seq, settled_row, settled_gens, usable_anon, is_nil}
use Rattle.lru_gen.specs.Gens.{GensOf, gens_of, sets}
use Rattle.lru_gen.proofs.KindLemmas.{kind_is, row_listed}
use Rattle.aging.proofs.GroupLemmas.{Change, change, sets-by, only-then}
use Rattle.page_lists.proofs.ListedLemmas.{each-weaker, each-test}
use Rattle.eviction.proofs.ListLemmas.{none-old, old_of-first, usable-first}

pub settled-raised : (kind : Kind) (g : Gens) → on_row kind (settled_row g.max_seq) (on_row kind raised g) ≡ on_row kind (settled_row g.max_seq) g
settled-raised Anon g = refl
settled-raised File g = refl

-- two generations have no old page
pub none-old-of-two : (top : ℕ) (row : Row) → IsRow top row → top ≤ row.min_seq + 1 → old_of top row.pages ≡ []
none-old-of-two top row r h = none-old top row.min_seq row.pages h (each-weaker (λ l. (row.min_seq ≤ l.seq) × (l.seq ≤ top)) (λ l. row.min_seq ≤ l.seq) (λ l h. h.0) row.pages r.within)

-- the first old page of a settled row is of its oldest generation
pub first-seq : (top low : ℕ) (pages : List Listed) → low ≡ least_seq (top - 1) pages → IsRising pages → (l : Listed) (ys : List Listed) → old_of top pages ≡ l ∷ ys → l.seq ≡ low
first-seq top low pages e r l ys o =
    let all : AllByRecursion (λ k. is_old top k ≡ true) (l ∷ ys) = subst (λ (zs : List Listed). AllByRecursion (λ k. is_old top k ≡ true) zs) o (each-test (is_old top) pages) in
    let lt : l.seq + 1 < top = ltb-true (l.seq + 1) top all.0 in
    let f = old_of-first top pages r l ys o in
    let least : low ≡ min (top - 1) l.seq = e ∙ ap (λ (zs : List Listed). least_seq (top - 1) zs) f.1 in
    omega arith

pub some-nil : {X : Type 0} (page : X → ℕ) (o : Option X) (xs : List Listed) → option_map page o ≡ option_map (λ (l : Listed). l.page) (slice_get xs 0) → is_some o ≡ not (is_nil xs)
some-nil page None [] e = refl
some-nil page None (x ∷ xs) e = absurd (cc)
some-nil page (Some o) [] e = absurd (cc)
some-nil page (Some o) (x ∷ xs) e = refl

-- the page of a first element
pub first-of : (xs : List Listed) (p : ℕ) → Some p ≡ option_map (λ (l : Listed). l.page) (slice_get xs 0) → (l : Listed) × (ys : List Listed) × (xs ≡ l ∷ ys) × (l.page ≡ p)
first-of [] p e = absurd (cc)
first-of (x ∷ xs) p e = (x, xs, refl, cc)

first-in : (p : ℕ) (pages : List Listed) (l : Listed) (ys : List Listed) → pages ≡ l ∷ ys → l.page ≡ p → has_page p pages ≡ true
first-in p pages l ys e q = rw e (rw (eq-eqb l.page p q) refl)

pub record Stands (g : Gens) (kind : Kind) (p : ℕ) : Type 0 where
  pub of : kind ≡ kind_of g p
  pub listed : is_listed g p ≡ true

stands-in : {g : Gens} → IsGens g → (kind : Kind) (p : ℕ) → has_page p (row_of kind g).pages ≡ true → Stands g kind p
stands-in {g} s kind p h = record { of = sym (kind_is s kind p h); listed = row_listed g p kind h }

pub file-stands : (g : Gens) → IsGens g → (p : ℕ) → Some p ≡ option_map (λ (l : Listed). l.page) (slice_get (old_of g.max_seq g.file.pages) 0) → Stands g File p
file-stands g s p e =
    let f = first-of (old_of g.max_seq g.file.pages) p e in
    let w = old_of-first g.max_seq g.file.pages s.file.rising f.0 f.1 f.2 in
    stands-in s File p (first-in p g.file.pages f.0 w.0 w.1 f.3)

pub anon-stands : (swap : Bool) (g : Gens) → IsGens g → (p : ℕ) → Some p ≡ option_map (λ (l : Listed). l.page) (slice_get (old_of g.max_seq (usable_anon swap g)) 0) → Stands g Anon p
anon-stands swap g s p e =
    let f = first-of (old_of g.max_seq (usable_anon swap g)) p e in
    let w = usable-first swap g.max_seq g.anon.pages s.anon.rising f.0 f.1 f.2 in
    stands-in s Anon p (first-in p g.anon.pages f.0 w.0 w.1 f.3)

-- both types settled, one after the other
pub settled-both : (g : ℕ) (s s1 s2 : GensOf) → g < length s.groups → s1 ≡ sets s g (on_row Anon (settled_row (gens_of s g).max_seq) (gens_of s g)) → s2 ≡ sets s1 g (on_row File (settled_row (gens_of s1 g).max_seq) (gens_of s1 g))
    → Change g s s2 (settled_gens (gens_of s g))
settled-both g s s1 s2 h e1 e2 =
    let c1 = change g s s1 (on_row Anon (settled_row (gens_of s g).max_seq) (gens_of s g)) h e1 in
    let c2 = change g s1 s2 (on_row File (settled_row (gens_of s1 g).max_seq) (gens_of s1 g)) c1.group e2 in
    let gens : gens_of s2 g ≡ settled_gens (gens_of s g) = c2.gens ∙ ap (λ (x : Gens). on_row File (settled_row x.max_seq) x) c1.gens in
    change g s s2 (settled_gens (gens_of s g)) h (sets-by g s s2 (settled_gens (gens_of s g)) (only-then g s s1 s2 c1.only c2.only) gens)
