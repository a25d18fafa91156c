-- Which group lists a page, and what a search for the next page keeps of all lists.
use Rattle.std.proofs.Common.{◌≡◌, inl, inr, ℕ, suc, ◌+◌, ◌<◌, ◌≤◌, ◌==◌, ◌&&◌, ◌||◌, not, Bool, true, false, List, [], ◌∷◌, length, Option, Some, None, MatchBool, refl, sym, ap, ◌∙◌, subst, arith, length-set}
use Rattle.std.proofs.Math.ListN.{get_or-eq_default}
use Rattle.std.specs.List.{AllByRecursion}
use Rattle.std.proofs.lemmas.Bool.{cases_lt, true≢false, or_right}
use Rattle.machine.specs.declared.record.Kind.{Kind}
use Rattle.machine.specs.declared.record.Kind.TheVariants.{Anon, File}
use Rattle.machine.specs.Slots.{there_and}
use Rattle.machine.specs.Pages.{Page, Pages, page_at, is_anon, is_held}
use Rattle.machine.specs.Generations.{Listed, Gens, IsGens, new_gens, row_of, has_page, is_listed, is_listed_in, gens_at}
use Rattle.machine.specs.Aging.{Seen, is_marked}
use Rattle.machine.specs.Eviction.{has_usable, is_old, old_of, old_pages, passed_by, aged_times, AgesToOld, Picks}
use Rattle.machine.specs.Lists.{HeldLists, seen_of, is_held_of, ListsHeld, AreGenerations, PicksOf}
use Rattle.page_lists.proofs.ListedLemmas.{each-filter, each-has}
use Rattle.machine.proofs.TreeLemmas.{eq_cases}
use Rattle.lru_gen.specs.Gens.{GensOf, gens_of}
use Rattle.aging.specs.Groups.{seen_at, ChangesOnly}
use Rattle.aging.proofs.GroupLemmas.{only-other}
use Rattle.eviction.specs.Kept.{ListsSame}
use Rattle.eviction.proofs.ListLemmas.{each-in_turn}
use Rattle.eviction.proofs.KeptLemmas.{kept-picks}
use Rattle.held_pages.specs.Held.{KeepsRows}

-- a page that some group lists is on the lists of one
pub listed-where : (groups : List Gens) (p : ℕ) → is_listed_in groups p ≡ true → (g : ℕ) × (is_listed (gens_at groups g) p ≡ true)
listed-where [] p h = absurd (true≢false (sym h))
listed-where (x ∷ xs) p h = by_first (listed-where xs p) (is_listed x p) refl h
  where
    by_first : (is_listed_in xs p ≡ true → (g : ℕ) × (is_listed (gens_at xs g) p ≡ true)) → (b : Bool) → is_listed x p ≡ b → (b || is_listed_in xs p) ≡ true → (g : ℕ) × (is_listed (gens_at (x ∷ xs) g) p ≡ true)
    by_first rest true here e = (0, here)
    by_first rest false here e = let found = rest e in (suc found.0, found.1)

-- what the page is that the search found
module _ (old new : GensOf) (marks marks' : List Bool) (hits : List ℕ) (g : ℕ) (only : ChangesOnly g old new) where
  lists : HeldLists
  lists = record { groups = old.groups; marks = marks; hits = hits }

  lists' : HeldLists
  lists' = record { groups = new.groups; marks = marks'; hits = hits }

  pub searched-picks : (swap_free : Bool) (answer : Option ℕ) → Picks swap_free (seen_at g old marks) answer (seen_at g new marks')
      → PicksOf swap_free (let l : HeldLists = record { groups = old.groups; marks = marks; hits = hits } in l) g answer (let l : HeldLists = record { groups = new.groups; marks = marks'; hits = hits } in l)
  searched-picks swap_free answer picks =
      record { seen = seen_at g new marks'; picks = picks; lists = ap (λ (s : GensOf). let l : HeldLists = record { groups = s.groups; marks = marks'; hits = hits } in l) only }

  pub searched-rows : ((h : ℕ) → ListsSame (gens_of old h) (gens_of new h)) → length marks' ≡ length marks → ((p : ℕ) → is_listed (gens_of old g) p ≡ false → is_marked marks' p ≡ is_marked marks p)
      → KeepsRows (let l : HeldLists = record { groups = old.groups; marks = marks; hits = hits } in l) (let l : HeldLists = record { groups = new.groups; marks = marks'; hits = hits } in l)
  searched-rows same size others =
      record {
        groups = ap (λ (s : GensOf). length s.groups) only ∙ length-set old.groups g (gens_of new g);
        rows = row;
        size = size;
        marks = λ p none. others p (none g);
        hits = refl;
      }
    where
      row : (h : ℕ) (kind : Kind) (p : ℕ) → has_page p (row_of kind (gens_at new.groups h)).pages ≡ has_page p (row_of kind (gens_at old.groups h)).pages
      row h Anon p = (same h).anon p
      row h File p = (same h).file p

  -- the others do not age
  pub searched-ages : (ages : ℕ) → (gens_of new g).max_seq ≡ (gens_of old g).max_seq + ages → ages ≤ 3 → (h : ℕ) → (gens_at new.groups h).max_seq ≤ (gens_at old.groups h).max_seq + 3
  searched-ages ages aged few h =
      elim (eq_cases h g) [
        | inl here ↦ subst (λ (i : ℕ). (gens_at new.groups i).max_seq ≤ (gens_at old.groups i).max_seq + 3) (sym here) (omega (arith, aged, few))
        | inr other ↦ (let stays = ap (λ (x : Gens). x.max_seq) (only-other g old new only h other) in omega (arith, stays))
      ]

-- a group with a page that may be taken has lists
pub usable-within : (free : Bool) (groups : List Gens) (g : ℕ) → has_usable free (gens_at groups g) ≡ true → g < length groups
usable-within free groups g usable =
    elim (cases_lt g (length groups)) [
      | inl lt ↦ lt
      | inr le ↦ absurd (none free (ap (has_usable free) (sym (get_or-eq_default groups new_gens le)) ∙ usable))
    ]
  where
    none : (b : Bool) → has_usable b new_gens ≡ true → ⊥
    none true e = true≢false (sym e)
    none false e = true≢false (sym e)

-- ---- the page that a search finds

-- where no swap block is free, all that may be taken are pages of files
files_old : (gens : Gens) → AllByRecursion (λ l. has_page l.page gens.file.pages ≡ true) (old_pages false gens)
files_old gens =
    each-in_turn (λ l. has_page l.page gens.file.pages ≡ true) (old_of gens.max_seq gens.file.pages) (old_of gens.max_seq [])
    (each-filter (λ l. has_page l.page gens.file.pages ≡ true) (is_old gens.max_seq) gens.file.pages (each-has gens.file.pages)) tt

answer_file : (from : Seen) (p : ℕ) (to : Seen) → AgesToOld false from (Some p) to → has_page p to.gens.file.pages ≡ true
answer_file from p to a =
    let end : Seen = aged_times a.times from in
    let all : AllByRecursion (λ l. has_page l.page end.gens.file.pages ≡ true) (a.first ∷ a.others) = subst (λ (zs : List Listed). AllByRecursion (λ l. has_page l.page end.gens.file.pages ≡ true) zs) a.old (files_old end.gens) in
    let same : p ≡ a.first.page = (let e : Some p ≡ Some a.first.page = a.answers in cc) in
    subst (λ (x : Seen). has_page p x.gens.file.pages ≡ true) (sym a.leaves) (subst (λ (i : ℕ). has_page i end.gens.file.pages ≡ true) (sym same) all.0)

picked_file : (from : Seen) (p : ℕ) (to : Seen) → IsGens from.gens → Picks false from (Some p) to → has_page p from.gens.file.pages ≡ true
picked_file from p to sound picks = sym ((kept-picks false from (Some p) to sound picks).file p) ∙ found (has_usable false from.gens) picks
  where
    found : (b : Bool) → MatchBool b (AgesToOld false (passed_by false from) (Some p) to) ((Some p ≡ None) × (to ≡ from)) → has_page p to.gens.file.pages ≡ true
    found true a = answer_file (passed_by false from) p to a
    found false n = absurd (let wrong : Some p ≡ None = n.0 in cc)

-- the page that a search finds is one of a file, or a swap block is free
pub picked-usable : (swap_free : Bool) (pages : Pages) (held held' : HeldLists) (g p : ℕ) → ListsHeld pages held → AreGenerations held → PicksOf swap_free held g (Some p) held' → (page : Page) → page_at pages p ≡ Some page → (not (is_anon page.content) || swap_free) ≡ true
picked-usable true pages held held' g p lists sound picked page there = or_right (not (is_anon page.content)) true refl
picked-usable false pages held held' g p lists sound picked page there =
    of_file (is_held page) (page.group == g) (is_anon page.content)
    (sym (ap (there_and (is_held_of g File)) there) ∙ sym (lists.rows g File p) ∙ picked_file (seen_of held g) p picked.seen (sound g) picked.picks)
  where
    of_file : (h e anon : Bool) → (h && (e && not anon)) ≡ true → (not anon || false) ≡ true
    of_file true true true is = absurd cc
    of_file true true false is = refl
    of_file true false anon is = absurd cc
    of_file false e anon is = absurd cc
