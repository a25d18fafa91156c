use Rattle.std.proofs.Common.{◌≡◌, ◌||◌, ◌&&◌, not, nat_le, ℕ, Bool, true, false, option_map, Option, Some, None, IfSome, slice_get, List, ◌∷◌, refl, sym, ap, ◌∙◌}
use Rattle.machine.specs.declared.record.Kind.{Kind}
use Rattle.machine.specs.declared.record.Kind.TheVariants.{Anon, File}
use Rattle.machine.specs.Generations.{Listed, Gens, IsGens, kind_of, is_listed}
use Rattle.machine.specs.Eviction.{old_of, is_nil, usable_anon, settled_gens}
use Rattle.lru_gen.specs.Gens.{gens_of}
use Rattle.eviction.specs.declared.search.Old.{Old}
use Rattle.eviction.proofs.ListLemmas.{turn-file, turn-anon}
use Rattle.eviction.proofs.SettleLemmas.{first-seq, some-nil, Stands, file-stands, anon-stands}
use Rattle.eviction.proofs.search.first_old.Goals as goal
use Rattle.eviction.proofs.search.first_old.Goals.{After-is_file_first}

-- where an old page of one type is found, it stands there
stands-if : (g : Gens) (kind : Kind) (xs : List Listed) → ((p : ℕ) → Some p ≡ option_map (λ (l : Listed). l.page) (slice_get xs 0) → Stands g kind p)
    → (o : Option Old) → option_map (λ (o : Old). o.page.0) o ≡ option_map (λ (l : Listed). l.page) (slice_get xs 0) → IfSome o (λ o. o.kind ≡ kind) → IfSome o (λ o. Stands g o.kind o.page.0)
stands-if g kind xs there None e k = tt
stands-if g kind xs there (Some o) e k = rw k (there o.page.0 e)

kinds : (g : Gens) (o : Option Old) → IfSome o (λ o. Stands g o.kind o.page.0) → IfSome o (λ o. o.kind ≡ kind_of g o.page.0)
kinds g None h = tt
kinds g (Some o) h = h.of

listed-all : (g : Gens) (o : Option Old) → IfSome o (λ o. Stands g o.kind o.page.0) → IfSome o (λ o. is_listed g o.page.0 ≡ true)
listed-all g None h = tt
listed-all g (Some o) h = h.listed

file-seq : (g : Gens) → g ≡ settled_gens g → IsGens g → (l : Listed) (ys : List Listed) → old_of g.max_seq g.file.pages ≡ l ∷ ys → l.seq ≡ g.file.min_seq
file-seq g e s = first-seq g.max_seq g.file.min_seq g.file.pages (ap (λ (h : Gens). h.file.min_seq) e) s.file.rising

anon-seq : (swap : Bool) (g : Gens) → g ≡ settled_gens g → IsGens g → (l : Listed) (ys : List Listed) → old_of g.max_seq (usable_anon swap g) ≡ l ∷ ys → l.seq ≡ g.anon.min_seq
anon-seq true g e s l ys q = first-seq g.max_seq g.anon.min_seq g.anon.pages (ap (λ (h : Gens). h.anon.min_seq) e) s.anon.rising l ys q
anon-seq false g e s l ys q = absurd (cc)

test-is : (a f t : Bool) → (not (not a) || (not f && t)) ≡ (a || (not f && t))
test-is true f t = refl
test-is false f t = refl

-- what the test says of the lists
first-test : (x y t r : Bool) (fs gs : List Listed) → r ≡ (not x || (y && t)) → x ≡ not (is_nil gs) → y ≡ not (is_nil fs) → (is_nil gs || (not (is_nil fs) && t)) ≡ r
first-test x y t r fs gs e ex ey = sym (test-is (is_nil gs) (is_nil fs) t) ∙ sym (ap (λ (v : Bool). not v || (not (is_nil fs) && t)) ex) ∙ sym (ap (λ (v : Bool). not x || (v && t)) ey) ∙ sym e

test : (c : After-is_file_first) → (let g = gens_of c.args.gens.now c.args.group.0 in (is_nil (old_of g.max_seq (usable_anon c.args.swap_free g)) || (not (is_nil (old_of g.max_seq g.file.pages)) && nat_le g.file.min_seq g.anon.min_seq)) ≡ c.is_file_first.result)
test c =
    let g = gens_of c.args.gens.now c.args.group.0 in
    first-test _ _ _ _ (old_of g.max_seq g.file.pages) (old_of g.max_seq (usable_anon c.args.swap_free g)) c.is_file_first.ensures
    (c.is_some-2.ensures ∙ some-nil (λ (o : Old). o.page.0) c.old_anon-anon.result _ c.old_anon-anon.ensures.page)
    (c.is_some.ensures ∙ some-nil (λ (o : Old). o.page.0) c.old_front-file.result _ c.old_front-file.ensures.page)

pub returns-then-is_file_first-clause-page : goal.returns-then-is_file_first-clause-page
returns-then-is_file_first-clause-page c =
    let g = gens_of c.args.gens.now c.args.group.0 in
    let s = c.is_sound.ensures.gens.each c.args.group.0 in
    let file = test (goal.at.returns-then-is_file_first-clause-page c).After-is_file_first ∙ c.if-is_file_first.true in
    let first = turn-file _ _ g.file.min_seq g.anon.min_seq (file-seq g c.requires.settled s) (anon-seq c.args.swap_free g c.requires.settled s) file in
    c.old_front-file.ensures.page ∙ sym (ap (option_map (λ (l : Listed). l.page)) first)

pub returns-then-is_file_first-clause-kind : goal.returns-then-is_file_first-clause-kind
returns-then-is_file_first-clause-kind c =
    let g = gens_of c.args.gens.now c.args.group.0 in
    kinds g c.old_front-file.result (stands-if g File (old_of g.max_seq g.file.pages) (file-stands g (c.is_sound.ensures.gens.each c.args.group.0)) c.old_front-file.result c.old_front-file.ensures.page c.old_front-file.ensures.kind)

pub returns-then-is_file_first-clause-listed : goal.returns-then-is_file_first-clause-listed
returns-then-is_file_first-clause-listed c =
    let g = gens_of c.args.gens.now c.args.group.0 in
    listed-all g c.old_front-file.result (stands-if g File (old_of g.max_seq g.file.pages) (file-stands g (c.is_sound.ensures.gens.each c.args.group.0)) c.old_front-file.result c.old_front-file.ensures.page c.old_front-file.ensures.kind)

pub returns-else-is_file_first-clause-page : goal.returns-else-is_file_first-clause-page
returns-else-is_file_first-clause-page c =
    let g = gens_of c.args.gens.now c.args.group.0 in
    let s = c.is_sound.ensures.gens.each c.args.group.0 in
    let anon = test (goal.at.returns-else-is_file_first-clause-page c).After-is_file_first ∙ c.if-is_file_first.false in
    let first = turn-anon _ _ g.file.min_seq g.anon.min_seq (file-seq g c.requires.settled s) (anon-seq c.args.swap_free g c.requires.settled s) anon in
    c.old_anon-anon.ensures.page ∙ sym (ap (option_map (λ (l : Listed). l.page)) first)

pub returns-else-is_file_first-clause-kind : goal.returns-else-is_file_first-clause-kind
returns-else-is_file_first-clause-kind c =
    let g = gens_of c.args.gens.now c.args.group.0 in
    kinds g c.old_anon-anon.result (stands-if g Anon (old_of g.max_seq (usable_anon c.args.swap_free g)) (anon-stands c.args.swap_free g (c.is_sound.ensures.gens.each c.args.group.0)) c.old_anon-anon.result c.old_anon-anon.ensures.page c.old_anon-anon.ensures.kind)

pub returns-else-is_file_first-clause-listed : goal.returns-else-is_file_first-clause-listed
returns-else-is_file_first-clause-listed c =
    let g = gens_of c.args.gens.now c.args.group.0 in
    listed-all g c.old_anon-anon.result (stands-if g Anon (old_of g.max_seq (usable_anon c.args.swap_free g)) (anon-stands c.args.swap_free g (c.is_sound.ensures.gens.each c.args.group.0)) c.old_anon-anon.result c.old_anon-anon.ensures.page c.old_anon-anon.ensures.kind)
