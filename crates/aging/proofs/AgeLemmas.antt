-- The parts of aging, one after another.
use Rattle.std.proofs.Common.{◌≡◌, ℕ, ◌+◌, ◌<◌, ◌≢◌, max, not, Bool, true, false, cond, eqb, List, [], ◌∷◌, ◌++◌, length, map, set, refl, sym, ap, ◌∙◌, get_or-set_other}
use Rattle.std.specs.List.{AllByRecursion}
use Rattle.std.proofs.lemmas.Bool.{eqb-false}
use Rattle.machine.specs.declared.record.Kind.TheVariants.{Anon, File}
use Rattle.machine.specs.Generations.{Listed, Row, Gens, at_seq, has_page, on_row, listed, merged, advanced, IsGens}
use Rattle.machine.specs.Aging.{is_marked, cleared, at_most_three, promoted, aged}
use Rattle.lru_gen.specs.Gens.{GensOf, gens_of, sets}
use Rattle.aging.specs.Groups.{seen_at}
use Rattle.page_lists.proofs.ListedLemmas.{each-weaker, each-has, none-in}
use Rattle.lru_gen.proofs.KindLemmas.{anon_is_no_file, sound_apart}
use Rattle.page_lists.proofs.AgingLemmas.{each-three}
use Rattle.aging.proofs.GroupLemmas.{change, only-then, sets-by}
use Rattle.aging.proofs.PromoteLemmas.{cleared-append, unmarked_of, marked_of}

-- the lists once no type has four generations, and there is a new youngest one
abbrev opened : Gens → Gens
opened g = record { max_seq = g.max_seq + 1; anon = at_most_three g.max_seq g.anon; file = at_most_three g.max_seq g.file }

opened-is : (g g1 g2 g3 : Gens) → g1 ≡ on_row Anon (at_most_three g.max_seq) g → g2 ≡ on_row File (at_most_three g1.max_seq) g1 → g3 ≡ record g2 { max_seq = g2.max_seq + 1 } → g3 ≡ opened g
opened-is g g1 g2 g3 e1 e2 e3 =
    e3 ∙ ap (λ (x : Gens). let y : Gens = record x { max_seq = x.max_seq + 1 } in y) (e2 ∙ ap (λ (x : Gens). on_row File (at_most_three x.max_seq) x) e1)

-- ---- the marks of the one type tell nothing of the other

cleared-map : (low : ℕ) (xs : List Listed) (m : List Bool) → cleared (map (λ l. at_seq (max low l.seq) l) xs) m ≡ cleared xs m
cleared-map low [] m = refl
cleared-map low (x ∷ xs) m = cleared-map low xs (set m x.page false)

cleared-cond : (b : Bool) (row : Row) (m : List Bool) → cleared (let r : Row = cond b (merged row) row in r).pages m ≡ cleared row.pages m
cleared-cond true row m = cleared-map (row.min_seq + 1) row.pages m
cleared-cond false row m = refl

cleared-three : (top : ℕ) (row : Row) (m : List Bool) → cleared (at_most_three top row).pages m ≡ cleared row.pages m
cleared-three top row m = cleared-cond (eqb (row.min_seq + 3) top) row m

pub cleared-other : (ls : List Listed) (m : List Bool) (p : ℕ) → AllByRecursion (λ l. eqb l.page p ≡ false) ls → is_marked (cleared ls m) p ≡ is_marked m p
cleared-other [] m p h = refl
cleared-other (l ∷ ls) m p h =
    let ne : p ≢ l.page = λ q. eqb-false l.page p h.0 (sym q) in
    cleared-other ls (set m l.page false) p h.1 ∙ get_or-set_other m l.page p false false ne

each-same : (gs : List Listed) (m : List Bool) (fs : List Listed) → ((p : ℕ) → has_page p fs ≡ true → has_page p gs ≡ false) → AllByRecursion (λ f. is_marked (cleared gs m) f.page ≡ is_marked m f.page) fs
each-same gs m fs apart =
    each-weaker (λ f. has_page f.page fs ≡ true) (λ f. is_marked (cleared gs m) f.page ≡ is_marked m f.page) (λ f h. cleared-other gs m f.page (none-in f.page gs (apart f.page h))) fs (each-has fs)

marked-same : (m m' : List Bool) (xs : List Listed) → AllByRecursion (λ f. is_marked m' f.page ≡ is_marked m f.page) xs → marked_of m' xs ≡ marked_of m xs
marked-same m m' [] h = refl
marked-same m m' (x ∷ xs) h = rw h.0 (ap (λ (zs : List Listed). cond (is_marked m x.page) (x ∷ zs) zs) (marked-same m m' xs h.1))

unmarked-same : (m m' : List Bool) (xs : List Listed) → AllByRecursion (λ f. is_marked m' f.page ≡ is_marked m f.page) xs → unmarked_of m' xs ≡ unmarked_of m xs
unmarked-same m m' [] h = refl
unmarked-same m m' (x ∷ xs) h = rw h.0 (ap (λ (zs : List Listed). cond (not (is_marked m x.page)) (x ∷ zs) zs) (unmarked-same m m' xs h.1))

promoted-same : (seq : ℕ) (m m' : List Bool) (row : Row) → AllByRecursion (λ f. is_marked m' f.page ≡ is_marked m f.page) row.pages → promoted seq m' row ≡ promoted seq m row
promoted-same seq m m' row h =
    ap (λ (zs : List Listed). let r : Row = record { min_seq = row.min_seq; pages = zs ++ map (at_seq seq) (marked_of m' row.pages) } in r) (unmarked-same m m' row.pages h)
    ∙ ap (λ (zs : List Listed). let r : Row = record { min_seq = row.min_seq; pages = unmarked_of m row.pages ++ map (at_seq seq) zs } in r) (marked-same m m' row.pages h)

-- ---- all together

abbrev rows : ℕ → Row → Row → Gens
rows top a f = record { max_seq = top; anon = a; file = f }

gens-done : (g g3 g4 g5 : Gens) (m m4 : List Bool) → IsGens g → g3 ≡ opened g → g4 ≡ on_row Anon (promoted g3.max_seq m) g3 → m4 ≡ cleared g3.anon.pages m → g5 ≡ on_row File (promoted g4.max_seq m4) g4
    → g5 ≡ (aged (record { gens = g; marks = m })).gens
gens-done g g3 g4 g5 m m4 s e3 e4 em e5 =
    let top : ℕ = g.max_seq + 1 in
    let at4 : g4 ≡ on_row Anon (promoted top m) (opened g) = e4 ∙ ap (λ (x : Gens). on_row Anon (promoted x.max_seq m) x) e3 in
    let marks : m4 ≡ cleared g.anon.pages m = em ∙ ap (λ (x : Gens). cleared x.anon.pages m) e3 ∙ cleared-three g.max_seq g.anon m in
    let same = each-three (λ f. is_marked (cleared g.anon.pages m) f.page ≡ is_marked m f.page) g.max_seq g.file (λ e l q. q) (each-same g.anon.pages m g.file.pages (sound_apart s File Anon anon_is_no_file)) in
    e5 ∙ ap (λ (x : Gens). on_row File (promoted x.max_seq m4) x) at4
    ∙ ap (λ (x : List Bool). rows top (promoted top m (at_most_three g.max_seq g.anon)) (promoted top x (at_most_three g.max_seq g.file))) marks
    ∙ ap (λ (x : Row). rows top (promoted top m (at_most_three g.max_seq g.anon)) x) (promoted-same top m (cleared g.anon.pages m) (at_most_three g.max_seq g.file) same)

marks-done : (g g3 g4 : Gens) (m m4 m5 : List Bool) → g3 ≡ opened g → g4 ≡ on_row Anon (promoted g3.max_seq m) g3 → m4 ≡ cleared g3.anon.pages m → m5 ≡ cleared g4.file.pages m4 → m5 ≡ cleared (listed g) m
marks-done g g3 g4 m m4 m5 e3 e4 em em5 =
    let at4 : g4 ≡ on_row Anon (promoted (g.max_seq + 1) m) (opened g) = e4 ∙ ap (λ (x : Gens). on_row Anon (promoted x.max_seq m) x) e3 in
    let marks : m4 ≡ cleared g.anon.pages m = em ∙ ap (λ (x : Gens). cleared x.anon.pages m) e3 ∙ cleared-three g.max_seq g.anon m in
    em5 ∙ ap (λ (x : Gens). cleared x.file.pages m4) at4 ∙ cleared-three g.max_seq g.file m4 ∙ ap (λ (x : List Bool). cleared g.file.pages x) marks ∙ sym (cleared-append g.anon.pages g.file.pages m)

-- what aging leaves of all groups
pub record Aged (g : ℕ) (s t : GensOf) (m m' : List Bool) : Type 0 where
  pub gens : t ≡ sets s g (aged (seen_at g s m)).gens
  pub marks : m' ≡ (aged (seen_at g s m)).marks

pub aged-at : (g : ℕ) (s s1 s2 s3 s4 s5 : GensOf) (m m4 m5 : List Bool) → IsGens (gens_of s g) → g < length s.groups → s1 ≡ sets s g (on_row Anon (at_most_three (gens_of s g).max_seq) (gens_of s g))
    → s2 ≡ sets s1 g (on_row File (at_most_three (gens_of s1 g).max_seq) (gens_of s1 g)) → s3 ≡ sets s2 g (advanced (gens_of s2 g)) → s4 ≡ sets s3 g (on_row Anon (promoted (gens_of s3 g).max_seq m) (gens_of s3 g))
    → m4 ≡ cleared (gens_of s3 g).anon.pages m → s5 ≡ sets s4 g (on_row File (promoted (gens_of s4 g).max_seq m4) (gens_of s4 g)) → m5 ≡ cleared (gens_of s4 g).file.pages m4 → Aged g s s5 m m5
aged-at g s s1 s2 s3 s4 s5 m m4 m5 sound h e1 e2 e3 e4 em4 e5 em5 =
    let c1 = change g s s1 (on_row Anon (at_most_three (gens_of s g).max_seq) (gens_of s g)) h e1 in
    let c2 = change g s1 s2 (on_row File (at_most_three (gens_of s1 g).max_seq) (gens_of s1 g)) c1.group e2 in
    let c3 = change g s2 s3 (advanced (gens_of s2 g)) c2.group e3 in
    let c4 = change g s3 s4 (on_row Anon (promoted (gens_of s3 g).max_seq m) (gens_of s3 g)) c3.group e4 in
    let c5 = change g s4 s5 (on_row File (promoted (gens_of s4 g).max_seq m4) (gens_of s4 g)) c4.group e5 in
    let open3 = opened-is (gens_of s g) (gens_of s1 g) (gens_of s2 g) (gens_of s3 g) c1.gens c2.gens c3.gens in
    record {
      gens =
          sets-by g s s5 (aged (seen_at g s m)).gens
          (only-then g s s4 s5 (only-then g s s3 s4 (only-then g s s2 s3 (only-then g s s1 s2 c1.only c2.only) c3.only) c4.only) c5.only)
          (gens-done (gens_of s g) (gens_of s3 g) (gens_of s4 g) (gens_of s5 g) m m4 sound open3 c4.gens em4 c5.gens);
      marks = marks-done (gens_of s g) (gens_of s3 g) (gens_of s4 g) m m4 m5 open3 c4.gens em4 em5;
    }
