-- The counters go on to count the pages that have a frame, whatever page comes, goes or moves.
use Rattle.std.proofs.Common.{◌≡◌, inl, inr, ℕ, zero, suc, ◌+◌, ◌<◌, ◌≤◌, ◌&&◌, Bool, true, false, List, [], ◌∷◌, ◌++◌, length, take, Option, Some, None, refl, sym, ap, subst, ◌∙◌, arith}
use Rattle.std.specs.Prelude.{IfSome, count_by, slice_index}
use Rattle.std.specs.List.{All}
use Rattle.std.proofs.lemmas.List.{get_or_append_left}
use Rattle.std.proofs.lemmas.List.Elements.{All-cons}
use Rattle.std.proofs.lemmas.List.Sums.{sum_by-cons}
use Rattle.machine.specs.Slots.{Changes, there_and, count_there}
use Rattle.machine.specs.Tree.{Node, no_node, is_live, under, share, IsTree}
use Rattle.machine.specs.Pages.{Page, Pages, page_at, has_frame, is_charged, charged, used_frames}
use Rattle.machine.specs.Counts.{over}
use Rattle.machine.proofs.TreeLemmas.{eq_cases, share-is, over_at-same}
use Rattle.machine.proofs.SlotLemmas.{one_if, count_there-none}
use Rattle.group_tree.specs.Lineages.{IsLineage}
use Rattle.group_tree.proofs.LineageLemmas.{live-within}
use Rattle.page_counter.specs.Counts.{Counts, AreCounts, IsOut, Charges, usage_of, over_in}
use Rattle.page_state.specs.Owned.{IsCounted}
use Rattle.page_state.proofs.BalanceLemmas.{changed-count}

-- the groups of the pages that have a frame
abbrev group_if : Bool → ℕ → List ℕ → List ℕ
group_if true g groups = g ∷ groups
group_if false g groups = groups

abbrev pub groups_of : Pages → List ℕ
groups_of [] = []
groups_of (None ∷ pages) = groups_of pages
groups_of (Some page ∷ pages) = group_if (has_frame page) page.group (groups_of pages)

all_if : (P : ℕ → Type 0) (b : Bool) (g : ℕ) (groups : List ℕ) → P g → All P groups → All P (group_if b g groups)
all_if P true g groups h rest = All-cons P g groups h rest
all_if P false g groups h rest = rest

-- what holds of each page's group holds of all of these
all_groups : (P : ℕ → Type 0) (pages : Pages) → ((p : ℕ) → IfSome (page_at pages p) (λ page. P page.group)) → All P (groups_of pages)
all_groups P [] h = λ k d lt. absurd (omega (arith, lt))
all_groups P (None ∷ pages) h = all_groups P pages (λ p. h (suc p))
all_groups P (Some page ∷ pages) h = all_if P (has_frame page) page.group (groups_of pages) (h 0) (all_groups P pages (λ p. h (suc p)))

count_if : (tree : List Node) (a : ℕ) (b : Bool) (g : ℕ) (groups : List ℕ) → count_by (λ x. under tree a x) (group_if b g groups) ≡ one_if (b && under tree a g) + count_by (λ x. under tree a x) groups
count_if tree a true g groups = sum_by-cons (λ x. one_if (under tree a x)) g groups
count_if tree a false g groups = omega arith

-- the pages charged under a group are as many as their groups under it
pub charged-groups : (tree : List Node) (a : ℕ) (pages : Pages) → charged tree pages a ≡ count_by (λ g. under tree a g) (groups_of pages)
charged-groups tree a [] = refl
charged-groups tree a (None ∷ pages) =
    let all = sum_by-cons (λ (slot : Option Page). one_if (there_and (is_charged tree a) slot)) None pages in
    let rest = charged-groups tree a pages in
    omega (arith, all, rest)
charged-groups tree a (Some page ∷ pages) =
    let all = sum_by-cons (λ (slot : Option Page). one_if (there_and (is_charged tree a) slot)) (Some page) pages in
    let groups = count_if tree a (has_frame page) page.group (groups_of pages) in
    let rest = charged-groups tree a pages in
    omega (arith, all, groups, rest)

-- pages that are counted are charges that are out
pub pages-counted : (counters : Counts) (pages : Pages) → IsCounted counters pages → AreCounts counters (groups_of pages)
pages-counted counters pages counted =
    record {
      live = all_groups (λ g. is_live counters.tree g ≡ true) pages counted.live;
      counts = λ a lt. counted.counts a lt ∙ charged-groups counters.tree a pages;
    }

-- the groups and the counts alone say what is counted
pub counted-same : (c d : Counts) (pages : Pages) → d.tree ≡ c.tree → d.usage ≡ c.usage → IsCounted c pages → IsCounted d pages
counted-same c d pages tree usage counted =
    subst (λ t. IsCounted (record { tree = t; limits = d.limits; usage = d.usage; room = d.room }) pages) (sym tree)
    (record { counts = λ a lt. ap (λ (u : List ℕ). slice_index u a) usage ∙ counted.counts a lt; live = counted.live })

live_longer : (tree more : List Node) (slot : Option Page) → IfSome slot (λ page. is_live tree page.group ≡ true) → IfSome slot (λ page. is_live (tree ++ more) page.group ≡ true)
live_longer tree more None h = tt
live_longer tree more (Some page) h = ap (λ (x : Node). x.live) (get_or_append_left tree more no_node page.group (live-within tree page.group h)) ∙ h

-- a group more, to which nothing is charged
pub counted-longer : (c d : Counts) (more : List Node) (pages : Pages) → d.tree ≡ c.tree ++ more → ((charges : List ℕ) → AreCounts c charges → AreCounts d charges) → IsCounted c pages → IsCounted d pages
counted-longer c d more pages tree keeps counted =
    let after = keeps (groups_of pages) (pages-counted c pages counted) in
    record {
      counts = λ a lt. after.counts a lt ∙ sym (charged-groups d.tree a pages);
      live = λ p. subst (λ t. IfSome (page_at pages p) (λ page. is_live t page.group ≡ true)) (sym tree) (live_longer c.tree more (page_at pages p) (counted.live p));
    }

pub counted-open : (c : Counts) (pages : Pages) → pages ≡ [] → c.usage ≡ 0 ∷ [] → IsCounted c pages
counted-open c pages empty usage =
    rw empty
    (record { counts = λ a lt. ap (λ (u : List ℕ). slice_index u a) usage ∙ zeros a; live = λ p. tt })
  where
    zeros : (a : ℕ) → slice_index (0 ∷ []) a ≡ 0
    zeros zero = refl
    zeros (suc a) = refl

-- the counters and the filter have the same group without room
pub over-counted : (c : Counts) (pages : Pages) (g : ℕ) → IsLineage c.tree → IsCounted c pages → is_live c.tree g ≡ true → over c.tree c.limits (charged c.tree pages) g ≡ over_in c g
over-counted c pages g is counted live =
    sym (over_at-same c.tree c.limits is.earlier_parents (usage_of c) (charged c.tree pages) counted.counts (Some g) (live-within c.tree g live))

and_less : (b c : Bool) → one_if (b && c) ≤ one_if b
and_less true true = omega arith
and_less true false = omega arith
and_less false c = omega arith

slot_less : (tree : List Node) (a : ℕ) (slot : Option Page) → one_if (there_and (is_charged tree a) slot) ≤ one_if (there_and has_frame slot)
slot_less tree a None = omega arith
slot_less tree a (Some page) = and_less (has_frame page) (under tree a page.group)

-- no group has more pages than there are frames in use
pub charged-used : (tree : List Node) (a : ℕ) (pages : Pages) → charged tree pages a ≤ used_frames pages
charged-used tree a [] = omega arith
charged-used tree a (slot ∷ pages) =
    let all = sum_by-cons (λ (slot : Option Page). one_if (there_and (is_charged tree a) slot)) slot pages in
    let used = sum_by-cons (λ (slot : Option Page). one_if (there_and has_frame slot)) slot pages in
    let here = slot_less tree a slot in
    let rest = charged-used tree a pages in
    omega (arith, all, used, here, rest)

-- so the root's count is small
pub root-small : (counters : Counts) (pages : Pages) (frames free : ℕ) → IsLineage counters.tree → IsCounted counters pages → free + used_frames pages ≡ frames → frames < 4294967296 → usage_of counters 0 < 18446744073709551615
root-small counters pages frames free is counted all few =
    let here = counted.counts 0 (live-within counters.tree 0 is.root_first) in
    let most = charged-used counters.tree 0 pages in
    omega (arith, here, most, all, few)

-- those below a number are all, where none is from it on
pub count-below : (test : Page → Bool) (pages : Pages) (k : ℕ) → ((n : ℕ) → k ≤ n → there_and test (page_at pages n) ≡ false) → count_there test (take k pages) ≡ count_there test pages
count-below test [] zero none = refl
count-below test [] (suc k) none = refl
count-below test (slot ∷ pages) zero none = sym (count_there-none test (slot ∷ pages) (λ n. none n (omega arith)))
count-below test (slot ∷ pages) (suc k) none =
    let some = sum_by-cons (λ (slot : Option Page). one_if (there_and test slot)) slot (take k pages) in
    let all = sum_by-cons (λ (slot : Option Page). one_if (there_and test slot)) slot pages in
    let rest = count-below test pages k (λ n le. none (suc n) (omega (arith, le))) in
    omega (arith, some, all, rest)

-- ---- a place changes

pub charge-usage : (c d : Counts) (g a : ℕ) → Charges c d g → a < length c.tree → usage_of d a ≡ usage_of c a + one_if (under c.tree a g)
charge-usage c d g a charged lt =
    let more = charged.usage a lt in
    let one : share c.tree a (Some g) ≡ one_if (under c.tree a g) = share-is c.tree a (Some g) in
    omega (arith, more, one)

pub uncharge-usage : (c d : Counts) (g a : ℕ) → Charges d c g → a < length c.tree → usage_of d a + one_if (under c.tree a g) ≡ usage_of c a
uncharge-usage c d g a charged lt =
    let all = subst (λ t. (a : ℕ) → a < length t → usage_of c a ≡ usage_of d a + share t a (Some g)) (sym charged.groups.tree) charged.usage in
    let more = all a lt in
    let one : share c.tree a (Some g) ≡ one_if (under c.tree a g) = share-is c.tree a (Some g) in
    omega (arith, more, one)

-- the counts change by what a place got and what it gave up
pub record Recharges (c d : Counts) (from to : Option Page) : Type 0 where
  pub tree : d.tree ≡ c.tree
  pub usage : (a : ℕ) → a < length c.tree → usage_of d a + one_if (there_and (is_charged c.tree a) from) ≡ usage_of c a + one_if (there_and (is_charged c.tree a) to)
  pub live : IfSome to (λ page. is_live c.tree page.group ≡ true)

at_new : (P : Page → Type 0) (slot slot' : Option Page) → slot ≡ slot' → IfSome slot' P → IfSome slot P
at_new P slot slot' same h = subst (λ s. IfSome s P) (sym same) h

-- what holds of each page, and of what comes, holds of each page after
pub each-after : (P : Page → Type 0) (pages pages' : Pages) (p : ℕ) (to : Option Page) → Changes pages pages' p to → IfSome to P → ((q : ℕ) → IfSome (page_at pages q) P) → (q : ℕ) → IfSome (page_at pages' q) P
each-after P pages pages' p to changes here each q =
    elim (eq_cases q p) [
      | inl same ↦ at_new P (page_at pages' q) to (ap (page_at pages') same ∙ changes.changed) here
      | inr other ↦ at_new P (page_at pages' q) (page_at pages q) (changes.others q other) (each q)
    ]

pub counted-step : (c d : Counts) (pages pages' : Pages) (p : ℕ) (from to : Option Page) → page_at pages p ≡ from → Changes pages pages' p to → Recharges c d from to → IsCounted c pages → IsCounted d pages'
counted-step c d pages pages' p from to stood changes charges counted =
    subst (λ t. IsCounted (record { tree = t; limits = d.limits; usage = d.usage; room = d.room }) pages') (sym charges.tree)
    (record {
      counts = λ a lt. (let u = charges.usage a lt in let before = counted.counts a lt in let n = changed-count (is_charged c.tree a) pages pages' p from to stood changes in omega (arith, u, before, n));
      live = each-after (λ page. is_live c.tree page.group ≡ true) pages pages' p to changes charges.live counted.live;
    })

-- a page without a frame is charged to nobody
pub uncharged-at : (tree : List Node) (a : ℕ) (slot : Option Page) → there_and has_frame slot ≡ false → one_if (there_and (is_charged tree a) slot) ≡ 0
uncharged-at tree a None e = refl
uncharged-at tree a (Some page) e = ap (λ b. one_if (b && under tree a page.group)) e

-- the charge of a page that lost its frame is out
pub page-out : (c : Counts) (pages pages' : Pages) (p : ℕ) (page : Page) (to : Option Page) → IsTree c.tree → page_at pages p ≡ Some page → has_frame page ≡ true → Changes pages pages' p to → there_and has_frame to ≡ false
    → IfSome to (λ page. is_live c.tree page.group ≡ true) → IsCounted c pages → IsOut c page.group
page-out c pages pages' p page to is stood framed changes unframed live counted =
    record {
      others = groups_of pages';
      counted = record {
        live = All-cons (λ x. is_live c.tree x ≡ true) page.group (groups_of pages') (subst (λ slot. IfSome slot (λ page. is_live c.tree page.group ≡ true)) stood (counted.live p))
            (all_groups (λ x. is_live c.tree x ≡ true) pages' (each-after (λ page. is_live c.tree page.group ≡ true) pages pages' p to changes live counted.live));
        counts = λ a lt.
            (let before = counted.counts a lt in
            let n = changed-count (is_charged c.tree a) pages pages' p (Some page) to stood changes in
            let was : one_if (has_frame page && under c.tree a page.group) ≡ one_if (under c.tree a page.group) = ap (λ b. one_if (b && under c.tree a page.group)) framed in
            let none = uncharged-at c.tree a to unframed in
            let cons = sum_by-cons (λ x. one_if (under c.tree a x)) page.group (groups_of pages') in
            let groups = charged-groups c.tree a pages' in
            omega (arith, before, n, was, none, cons, groups));
      };
    }
