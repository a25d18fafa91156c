-- A change of one group's lists, and the other groups.
use Rattle.std.proofs.Common.{◌≡◌, ℕ, suc, ◌<◌, ◌≢◌, ◌||◌, Bool, true, false, List, [], ◌∷◌, length, refl, sym, ap, ◌∙◌, subst, inl, inr, length-set, get_or-set_other}
use Rattle.std.proofs.lemmas.List.{set-get_or, get_or-set_same, set-set}
use Rattle.std.proofs.lemmas.Bool.{cases_eq, false_from_ne_true}
use Rattle.machine.specs.Generations.{Gens, new_gens, gens_at, with_gens, has_page, is_listed, is_listed_in, isolated, AreGens}
use Rattle.lru_gen.specs.Gens.{GensOf, gens_of, sets}
use Rattle.aging.specs.Groups.{ChangesOnly}
use Rattle.lru_gen.proofs.SoundLemmas.{group_has}
use Rattle.page_lists.proofs.ListedLemmas.{has_page-without}

-- ---- the lists of one group

gens_of-sets : (s : GensOf) (g : ℕ) (x : Gens) → g < length s.groups → gens_of (sets s g x) g ≡ x
gens_of-sets s g x h = get_or-set_same s.groups g x new_gens h

sets-sets : (s : GensOf) (g : ℕ) (x y : Gens) → sets (sets s g x) g y ≡ sets s g y
sets-sets s g x y = ap (λ (gs : List Gens). let t : GensOf = record s { groups = gs } in t) (set-set s.groups g x y)

sets-same : (s : GensOf) (g : ℕ) → sets s g (gens_of s g) ≡ s
sets-same s g = ap (λ (gs : List Gens). let t : GensOf = record s { groups = gs } in t) (set-get_or s.groups g new_gens)

-- what a change to the lists of one group gives
pub record Change (g : ℕ) (s t : GensOf) (x : Gens) : Type 0 where
  pub gens : gens_of t g ≡ x
  pub only : ChangesOnly g s t
  pub group : g < length t.groups
  pub pages : t.pages ≡ s.pages

pub change : (g : ℕ) (s t : GensOf) (x : Gens) → g < length s.groups → t ≡ sets s g x → Change g s t x
change g s t x h e =
    let gens : gens_of t g ≡ x = ap (λ (u : GensOf). gens_of u g) e ∙ gens_of-sets s g x h in
    record {
      gens = gens;
      only = e ∙ sym (ap (λ (y : Gens). sets s g y) gens);
      group = subst (λ (u : GensOf). g < length u.groups) (sym e) (subst (λ (n : ℕ). g < n) (sym (length-set s.groups g x)) h);
      pages = ap (λ (u : GensOf). u.pages) e;
    }

pub only-same : (g : ℕ) (s : GensOf) → ChangesOnly g s s
only-same g s = sym (sets-same s g)

pub only-then : (g : ℕ) (s t u : GensOf) → ChangesOnly g s t → ChangesOnly g t u → ChangesOnly g s u
only-then g s t u h k = k ∙ ap (λ (v : GensOf). sets v g (gens_of u g)) h ∙ sets-sets s g (gens_of t g) (gens_of u g)

-- a second change of the same lists is a change of the first
pub change-then : (g : ℕ) (s t u : GensOf) (x y : Gens) → g < length s.groups → t ≡ sets s g x → u ≡ sets t g y → u ≡ sets s g y
change-then g s t u x y h e k = k ∙ ap (λ (v : GensOf). sets v g y) e ∙ sets-sets s g x y

-- the change is told by the lists
pub sets-by : (g : ℕ) (s t : GensOf) (x : Gens) → ChangesOnly g s t → gens_of t g ≡ x → t ≡ sets s g x
sets-by g s t x h e = h ∙ ap (λ (y : Gens). sets s g y) e

pub only-group : (g : ℕ) (s t : GensOf) → g < length s.groups → ChangesOnly g s t → g < length t.groups
only-group g s t h k = (change g s t (gens_of t g) h k).group

pub only-other : (g : ℕ) (s t : GensOf) → ChangesOnly g s t → (h : ℕ) → h ≢ g → gens_of t h ≡ gens_of s h
only-other g s t only h ne = ap (λ (u : GensOf). gens_of u h) only ∙ get_or-set_other s.groups g h (gens_of t g) new_gens ne

-- ---- a page that is on the lists of one group

pub listed-in : (groups : List Gens) (g p : ℕ) → is_listed (gens_at groups g) p ≡ true → is_listed_in groups p ≡ true
listed-in groups g p h = group_has groups g p h

pub unlisted-all : (groups : List Gens) (p : ℕ) → ((g : ℕ) → is_listed (gens_at groups g) p ≡ false) → is_listed_in groups p ≡ false
unlisted-all [] p h = refl
unlisted-all (x ∷ xs) p h = ap (λ (b : Bool). b || is_listed_in xs p) (h 0) ∙ unlisted-all xs p (λ g. h (suc g))

unlisted-isolated : (p : ℕ) (x : Gens) → is_listed (isolated p x) p ≡ false
unlisted-isolated p x = ap (λ (b : Bool). b || has_page p (isolated p x).anon.pages) (has_page-without p x.file.pages) ∙ has_page-without p x.anon.pages

-- after it has left, no group lists it
pub unlisted-in : (groups : List Gens) (g p : ℕ) → AreGens groups → g < length groups → is_listed (gens_at groups g) p ≡ true
    → is_listed_in (with_gens groups g (isolated p (gens_at groups g))) p ≡ false
unlisted-in groups g p s lt h =
    let left : Gens = isolated p (gens_at groups g) in
    unlisted-all (with_gens groups g left) p (λ k.
    elim (cases_eq k g) [
      | inl same ↦
          subst (λ (i : ℕ). is_listed (gens_at (with_gens groups g left) i) p ≡ false) (sym same)
          (ap (λ (x : Gens). is_listed x p) (get_or-set_same groups g left new_gens lt) ∙ unlisted-isolated p (gens_at groups g))
      | inr other ↦
          ap (λ (x : Gens). is_listed x p) (get_or-set_other groups g k left new_gens other)
          ∙ false_from_ne_true (is_listed (gens_at groups k) p) (λ too. other (s.apart k g p too h))
    ])
