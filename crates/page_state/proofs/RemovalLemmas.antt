-- A group goes: its pages become its parent's one by one, and all that is kept by group goes on to agree.
use Rattle.std.proofs.Common.{◌≡◌, ◌≢◌, ◌⊎◌, inl, inr, ℕ, zero, suc, ◌+◌, ◌<◌, ◌==◌, ◌&&◌, Bool, true, false, List, [], ◌∷◌, length, length-set, Option, Some, None, eq-eqb, eqb-true, refl, sym, ap, ◌∙◌, subst, arith}
use Rattle.std.specs.Prelude.{slice_set, slice_index, option_map, IfSome, sum}
use Rattle.std.proofs.lemmas.List.{get_or-set_other}
use Rattle.machine.specs.declared.config.Placement.{Placement}
use Rattle.machine.specs.Slots.{at, Changes, there_and, count_there}
use Rattle.machine.specs.Tree.{Node, node_at, is_live, has_children, under, share, IsTree, without_group}
use Rattle.machine.specs.Pages.{Residence, Page, Pages, page_at, has_frame, has_this_frame, has_swap, is_in_transfer, is_charged, charged}
use Rattle.machine.specs.Generations.{with_gens, handed_over}
use Rattle.machine.specs.Step.{heir, regrouped}
use Rattle.machine.proofs.TreeLemmas.{eq_cases, share-step, share-is}
use Rattle.machine.proofs.SlotLemmas.{one_if, count_there-none}
use Rattle.machine.proofs.RemovedLemmas.{without-other, without-under, count-alike}
use Rattle.page_lists.proofs.RegroupedLemmas.{regrouped-own, regrouped-other, regrouped-left, under-alone, count-regrouped, heir-other, heir-live, heir-framed, regrouped-test, regrouped-was}
use Rattle.page_lists.proofs.HandedLemmas.{held-handed}
use Rattle.group_tree.specs.Lineages.{IsLineage}
use Rattle.group_tree.proofs.LineageLemmas.{live-within}
use Rattle.page_counter.specs.Counts.{Counts, IsOut, SameGroups, MovesUp, usage_of}
use Rattle.pages.specs.PagesOf.{PagesOf, byte_in, Label, label_of, HasResidence}
use Rattle.page_state.specs.declared.parts.Parts.{Parts}
use Rattle.held_pages.specs.Held.{HeldOf}
use Rattle.page_state.specs.Owned.{has_this_block, is_going, as_number, IsBalanced, IsCounted, PartsAgree}
use Rattle.page_state.proofs.BalanceLemmas.{changed-count}
use Rattle.page_state.proofs.CountLemmas.{Recharges, counted-step, page-out}

-- ---- one page

-- a page and its charge become those of the group above
recharges-up : (placement : Placement) (c d : Counts) (x : Page) (parent : ℕ) → IsTree c.tree → (node_at c.tree x.group).parent ≡ Some parent → is_live c.tree 0 ≡ true → is_live c.tree parent ≡ true → SameGroups c d
    → (has_frame x ≡ true → MovesUp c d x.group) → (has_frame x ≡ false → d ≡ c) → Recharges c d (Some x) (Some (record x { group = heir placement parent x.residence }))
recharges-up placement c d x parent falls below root live same charged uncharged =
    record { tree = same.tree; usage = λ a lt. by_frame a lt (has_frame x) refl; live = heir-live placement c.tree parent x.residence root live }
  where
    to : ℕ
    to = heir placement parent x.residence

    by_frame : (a : ℕ) → a < length c.tree → (b : Bool) → has_frame x ≡ b → usage_of d a + one_if (has_frame x && under c.tree a x.group) ≡ usage_of c a + one_if (has_frame x && under c.tree a to)
    by_frame a lt true framed =
        let less = (charged framed).usage a lt in
        let here : one_if (has_frame x && under c.tree a x.group) ≡ one_if (under c.tree a x.group) = ap (λ b. one_if (b && under c.tree a x.group)) framed in
        let there : one_if (has_frame x && under c.tree a to) ≡ one_if (under c.tree a parent) = ap (λ b. one_if (b && under c.tree a to)) framed ∙ ap (λ (h : ℕ). one_if (under c.tree a h)) (heir-framed placement parent x.residence framed) in
        let step = share-step c.tree falls a x.group in
        let own : share c.tree a (Some x.group) ≡ one_if (under c.tree a x.group) = share-is c.tree a (Some x.group) in
        let up : share c.tree a (node_at c.tree x.group).parent ≡ one_if (under c.tree a parent) = ap (share c.tree a) below ∙ share-is c.tree a (Some parent) in
        omega (arith, less, here, there, step, own, up)
    by_frame a lt false unframed =
        let kept : usage_of d a ≡ usage_of c a = ap (λ (y : Counts). usage_of y a) (uncharged unframed) in
        let here : one_if (has_frame x && under c.tree a x.group) ≡ 0 = ap (λ b. one_if (b && under c.tree a x.group)) unframed in
        let there : one_if (has_frame x && under c.tree a to) ≡ 0 = ap (λ b. one_if (b && under c.tree a to)) unframed in
        omega (arith, kept, here, there)

gone-there : (pages : Pages) (p : ℕ) → at (slice_set pages p None) p ≡ None
gone-there [] p = refl
gone-there (x ∷ pages) zero = refl
gone-there (x ∷ pages) (suc p) = gone-there pages p

-- the charge of a page that has a frame is out
pub framed-out : (c : Counts) (pages : Pages) (p : ℕ) (x : Page) → IsTree c.tree → IsCounted c pages → page_at pages p ≡ Some x → has_frame x ≡ true → IsOut c x.group
framed-out c pages p x falls counted stood framed =
    page-out c pages (slice_set pages p None) p x None falls stood framed (record { changed = gone-there pages p; others = λ q other. get_or-set_other pages p q None None other }) refl tt counted

-- ---- page by page

-- the page is as it was, or its parent's by now
abbrev pub IsHanded : Placement → ℕ → ℕ → Option Page → Option Page → Type 0
IsHanded placement g parent before now = (now ≡ before) ⊎ (now ≡ option_map (regrouped placement g parent) before)

-- of the group's pages some are its parent's by now, and all are counted where they are
pub record HandsSome (placement : Placement) (g parent : ℕ) (c d : Counts) (old now : PagesOf) : Type 0 where
  pub pages : (p : ℕ) → IsHanded placement g parent (page_at old.pages p) (page_at now.pages p)
  pub bytes : (q o : ℕ) → byte_in now.bytes q o ≡ byte_in old.bytes q o
  pub others : now ≡ record old { pages = now.pages; bytes = now.bytes }
  pub counted : IsCounted d now.pages
  pub same : SameGroups c d

pub hands-none : (placement : Placement) (g parent : ℕ) (c : Counts) (old : PagesOf) → IsCounted c old.pages → HandsSome placement g parent c c old old
hands-none placement g parent c old counted = record { pages = λ p. inl refl; bytes = λ q o. refl; others = refl; counted = counted; same = record { tree = refl; limits = refl; room = refl } }

module _ (placement : Placement) (g parent : ℕ) (lower : parent < g) (c d e : Counts) (old now next : PagesOf) (p : ℕ) (x : Page) (own : x.group ≡ g) (stood : page_at now.pages p ≡ Some x) (moved : Changes now.pages next.pages p (Some (record x { group = heir placement parent x.residence })))
    (bytes : (q o : ℕ) → byte_in next.bytes q o ≡ byte_in now.bytes q o) (others : next ≡ record now { pages = next.pages; bytes = next.bytes }) (falls : IsTree c.tree) (below : (node_at c.tree g).parent ≡ Some parent)
    (root : is_live c.tree 0 ≡ true) (live : is_live c.tree parent ≡ true) (same : SameGroups d e) (charged : has_frame x ≡ true → MovesUp d e x.group) (uncharged : has_frame x ≡ false → e ≡ d) where
  handed-here : IsHanded placement g parent (page_at old.pages p) (page_at now.pages p) → page_at next.pages p ≡ option_map (regrouped placement g parent) (page_at old.pages p)
  handed-here (inl kept) = moved.changed ∙ ap Some (sym (regrouped-own placement g parent x own)) ∙ ap (option_map (regrouped placement g parent)) (sym stood ∙ kept)
  handed-here (inr handed) =
      let was = regrouped-was placement g parent (page_at old.pages p) x (sym handed ∙ stood) in
      absurd (regrouped-left placement g parent was.0 lower (sym (ap (λ (y : Page). y.group) was.2) ∙ own))

  -- one page more
  pub hands-more : HandsSome placement g parent c d old now → HandsSome placement g parent c e old next
  hands-more hands =
      record {
        pages = λ q. elim (eq_cases q p) [
          | inl is ↦ inr (ap (page_at next.pages) is ∙ handed-here (hands.pages p) ∙ ap (λ (n : ℕ). option_map (regrouped placement g parent) (page_at old.pages n)) (sym is))
          | inr other ↦ subst (IsHanded placement g parent (page_at old.pages q)) (sym (moved.others q other)) (hands.pages q)
        ];
        bytes = λ q o. bytes q o ∙ hands.bytes q o;
        others = others ∙ ap (λ (t : PagesOf). record t { pages = next.pages; bytes = next.bytes }) hands.others;
        counted = counted-step d e now.pages next.pages p (Some x) (Some (record x { group = heir placement parent x.residence })) stood moved
            (recharges-up placement d e x parent (subst IsTree (sym hands.same.tree) falls) (ap (λ (t : List Node). (node_at t x.group).parent) hands.same.tree ∙ ap (λ (h : ℕ). (node_at c.tree h).parent) own ∙ below) (ap (λ (t : List Node). is_live t 0) hands.same.tree ∙ root) (ap (λ (t : List Node). is_live t parent) hands.same.tree ∙ live) same charged uncharged) hands.counted;
        same = record { tree = same.tree ∙ hands.same.tree; limits = same.limits ∙ hands.same.limits; room = same.room ∙ hands.same.room };
      }

  -- and one less is to go
  pub hands-fewer : count_there (λ page. page.group == g) next.pages < count_there (λ page. page.group == g) now.pages
  hands-fewer =
      let change = changed-count (λ page. page.group == g) now.pages next.pages p (Some x) (Some (record x { group = heir placement parent x.residence })) stood moved in
      let here : one_if (x.group == g) ≡ 1 = ap one_if (eq-eqb x.group g own) in
      let left : one_if (heir placement parent x.residence == g) ≡ 0 = by_test (heir placement parent x.residence == g) refl in
      omega (arith, change, here, left)
    where
      by_test : (b : Bool) → (heir placement parent x.residence == g) ≡ b → one_if (heir placement parent x.residence == g) ≡ 0
      by_test true is = absurd (heir-other placement g parent x.residence lower (eqb-true _ g is))
      by_test false differs = ap one_if differs

-- where none is the group's any more, all are its parent's
pub hands-all : (placement : Placement) (g parent : ℕ) (c d : Counts) (old now : PagesOf) → HandsSome placement g parent c d old now → ((p : ℕ) (label : Label) (r : Residence) → HasResidence now.pages p label r → label.group ≢ g) → (p : ℕ)
    → page_at now.pages p ≡ option_map (regrouped placement g parent) (page_at old.pages p)
hands-all placement g parent c d old now hands none p = by_case (hands.pages p)
  where
    stays : (slot : Option Page) → page_at now.pages p ≡ slot → slot ≡ option_map (regrouped placement g parent) slot
    stays None is = refl
    stays (Some page) is = ap Some (sym (regrouped-other placement g parent page (none p (label_of page) page.residence is)))

    by_case : IsHanded placement g parent (page_at old.pages p) (page_at now.pages p) → page_at now.pages p ≡ option_map (regrouped placement g parent) (page_at old.pages p)
    by_case (inl kept) = stays (page_at now.pages p) refl ∙ ap (option_map (regrouped placement g parent)) kept
    by_case (inr handed) = handed

-- ---- the counters

module _ (c d : Counts) (pages : Pages) (g : ℕ) (is : IsLineage c.tree) (childless : has_children c.tree g ≡ false) (counted : IsCounted c pages) (none : (p : ℕ) → IfSome (page_at pages p) (λ page. page.group ≢ g)) where
  charged_at : (slot : Option Page) → IfSome slot (λ page. is_live c.tree page.group ≡ true) → IfSome slot (λ page. page.group ≢ g) → there_and (is_charged c.tree g) slot ≡ false
  charged_at None live other = refl
  charged_at (Some page) live other = by_frame (has_frame page)
    where
      by_frame : (b : Bool) → (b && under c.tree g page.group) ≡ false
      by_frame true = under-alone c.tree g is.earlier_parents is.parents_live childless page.group live other
      by_frame false = refl

  -- a group without a page and without a group below it is charged for nothing
  pub usage-none : g < length c.tree → usage_of c g ≡ 0
  usage-none lt = counted.counts g lt ∙ count_there-none (is_charged c.tree g) pages (λ p. charged_at (page_at pages p) (counted.live p) (none p))

  live_at : (slot : Option Page) → IfSome slot (λ page. is_live c.tree page.group ≡ true) → IfSome slot (λ page. page.group ≢ g) → IfSome slot (λ page. is_live (without_group c.tree g) page.group ≡ true)
  live_at None live other = tt
  live_at (Some page) live other = ap (λ (n : Node). n.live) (without-other c.tree g page.group other) ∙ live

  same_charge : (a : ℕ) (slot : Option Page) → there_and (is_charged (without_group c.tree g) a) slot ≡ there_and (is_charged c.tree a) slot
  same_charge a None = refl
  same_charge a (Some page) = ap (λ b. has_frame page && b) (without-under c.tree g a (Some page.group))

  -- it can go, and all pages are counted as before
  pub counted-without : d.tree ≡ without_group c.tree g → d.usage ≡ c.usage → length (without_group c.tree g) ≡ length c.tree → IsCounted d pages
  counted-without tree usage len =
      subst (λ (t : List Node). IsCounted (record { tree = t; limits = d.limits; usage = d.usage; room = d.room }) pages) (sym tree)
      (record {
        counts = λ a lt. ap (λ (u : List ℕ). slice_index u a) usage ∙ counted.counts a (omega (arith, lt, len)) ∙ sym (count-alike (is_charged c.tree a) (is_charged (without_group c.tree g) a) pages pages (λ n. same_charge a (page_at pages n)));
        live = λ p. live_at (page_at pages p) (counted.live p) (none p);
      })

-- ---- the parts

-- what does not look at a page's group counts as before
balanced-regrouped : (this : ℕ → Page → Bool) (has : Page → Bool) (total : ℕ) (free : List ℕ) (pages pages' : Pages) (placement : Placement) (g parent : ℕ) → ((n : ℕ) (page : Page) → this n (regrouped placement g parent page) ≡ this n page) → ((page : Page) → has (regrouped placement g parent page) ≡ has page)
    → ((p : ℕ) → page_at pages' p ≡ option_map (regrouped placement g parent) (page_at pages p)) → IsBalanced this has total free pages → IsBalanced this has total free pages'
balanced-regrouped this has total free pages pages' placement g parent same_this same_has handed balanced =
    record {
      once = λ n lt. (let alike = count-regrouped placement g parent pages pages' handed (this n) (same_this n) in let was = balanced.once n lt in omega (arith, alike, was));
      none_beyond = λ n le. (let alike = count-regrouped placement g parent pages pages' handed (this n) (same_this n) in let was = balanced.none_beyond n le in omega (arith, alike, was));
      all = (let alike = count-regrouped placement g parent pages pages' handed has same_has in let was = balanced.all in omega (arith, alike, was));
    }

module _ (placement : Placement) (h : Parts) (is : PartsAgree h) (g parent : ℕ) (d e : Counts) (pages : PagesOf) (held : HeldOf) (handed : (p : ℕ) → page_at pages.pages p ≡ option_map (regrouped placement g parent) (page_at h.pages.pages p))
    (others : pages ≡ record (h.pages) { pages = pages.pages; bytes = pages.bytes }) (same : SameGroups h.counters d) (counted : IsCounted d pages.pages) (lineage : IsLineage h.counters.tree)
    (below : (node_at h.counters.tree g).parent ≡ Some parent) (live : is_live h.counters.tree g ≡ true) (childless : has_children h.counters.tree g ≡ false)
    (takes : held ≡ record (h.held) { lists = record { groups = handed_over g parent h.held.lists.groups; marks = h.held.lists.marks; hits = h.held.lists.hits } }) where
  -- the parent is another group, and is there
  pub parent-apart : parent ≢ g
  parent-apart equal = let less = lineage.earlier_parents.falls g parent below in omega (arith, less, equal)

  parent_live : is_live h.counters.tree parent ≡ true
  parent_live = lineage.parents_live g parent live below

  within : (x : ℕ) → is_live h.counters.tree x ≡ true → x < length h.held.lists.groups
  within x there = let lt = live-within h.counters.tree x there in let sized = is.held_groups in omega (arith, lt, sized)

  none_left : (p : ℕ) → IfSome (page_at pages.pages p) (λ page. page.group ≢ g)
  none_left p = left (page_at h.pages.pages p) (page_at pages.pages p) (handed p)
    where
      left : (was now : Option Page) → now ≡ option_map (regrouped placement g parent) was → IfSome now (λ page. page.group ≢ g)
      left None now e = subst (λ (slot : Option Page). IfSome slot (λ page. page.group ≢ g)) (sym e) tt
      left (Some page) now e = subst (λ (slot : Option Page). IfSome slot (λ page. page.group ≢ g)) (sym e) (regrouped-left placement g parent page (lineage.earlier_parents.falls g parent below))

  lineage' : IsLineage d.tree
  lineage' = subst IsLineage (sym same.tree) lineage

  childless' : has_children d.tree g ≡ false
  childless' = ap (λ (t : List Node). has_children t g) same.tree ∙ childless

  -- nothing is charged to the group
  pub usage-left : usage_of d g ≡ 0
  usage-left = usage-none d d pages.pages g lineage' childless' counted none_left (live-within d.tree g (ap (λ (t : List Node). is_live t g) same.tree ∙ live))

  pub agree-removed : e.tree ≡ without_group d.tree g → e.usage ≡ d.usage → PartsAgree (record h { pages = pages; counters = e; held = held })
  agree-removed tree usage =
      let len : length (without_group d.tree g) ≡ length d.tree = length-set d.tree g _ in
      let size : length e.tree ≡ length h.counters.tree = ap length tree ∙ len ∙ ap length same.tree in
      let numbers : pages.numbers ≡ h.pages.numbers = ap (λ (t : PagesOf). t.numbers) others in
      let tickets : pages.tickets ≡ h.pages.tickets = ap (λ (t : PagesOf). t.tickets) others in
      let groups : pages.groups ≡ h.pages.groups = ap (λ (t : PagesOf). t.groups) others in
      let going = count-regrouped placement g parent h.pages.pages pages.pages handed is_going (λ page. refl) in
      let moving = count-regrouped placement g parent h.pages.pages pages.pages handed is_in_transfer (λ page. refl) in
      let lists : length (handed_over g parent h.held.lists.groups) ≡ length h.held.lists.groups = length-set (with_gens h.held.lists.groups parent _) g _ ∙ length-set h.held.lists.groups parent _ in
      subst (λ (x : HeldOf). PartsAgree (record h { pages = pages; counters = e; held = x })) (sym takes)
      (record {
        kept = record {
          frames = balanced-regrouped has_this_frame has_frame h.pool.frames h.pool.free h.pages.pages pages.pages placement g parent (λ n page. refl) (λ page. refl) handed is.kept.frames;
          blocks = balanced-regrouped has_this_block has_swap h.slots.blocks h.slots.free h.pages.pages pages.pages placement g parent (λ n page. refl) (λ page. refl) handed is.kept.blocks;
          counted = counted-without d e pages.pages g lineage' childless' counted none_left tree usage len;
        };
        few = is.few;
        held = held-handed placement h.pages.pages pages.pages h.held.lists g parent parent-apart (within g live) (within parent parent_live) is.held handed;
        moving = record {
          once = λ p. is.moving.once p ∙ ap as_number (sym (ap (there_and is_in_transfer) (handed p) ∙ regrouped-test is_in_transfer placement g parent (λ page. refl) (page_at h.pages.pages p)));
          len = is.moving.len ∙ sym moving;
        };
        moving_room = is.moving_room;
        held_groups = lists ∙ is.held_groups ∙ sym size;
        page_groups = groups ∙ is.page_groups ∙ sym size;
        page_frames = ap (λ (t : PagesOf). t.frames) others ∙ is.page_frames;
        held_numbers = is.held_numbers ∙ sym numbers;
        homes = ap (λ (t : PagesOf). t.files.first) others ∙ is.homes;
        spares = (let was = is.spares in omega (arith, was, going));
        most_spares = (let was = is.most_spares in let sizes = ap (λ (t : PagesOf). sum t.files.sizes) others in omega (arith, was, sizes));
        numbers = (let was = is.numbers in omega (arith, was, numbers));
        tickets = (let was = is.tickets in omega (arith, was, moving, tickets));
      })
