-- Which pages a reclaim may take, and which group gives the next, by the lists of held pages and by the table of pages.
use Rattle.std.proofs.Common.{◌≡◌, ◌≢◌, inl, inr, ℕ, suc, ◌<◌, ◌≤◌, ◌==◌, ◌&&◌, ◌||◌, not, Bool, true, false, cond, List, [], ◌∷◌, length, get_or, Option, Some, None, refl, sym, ap, ◌∙◌, arith}
use Rattle.std.specs.Prelude.{IfSome, find}
use Rattle.std.specs.List.{All, list_any}
use Rattle.std.proofs.lemmas.Bool.{cases_Bool, and_parts, and_from, and_right}
use Rattle.std.proofs.lemmas.Bool.Decides.{nat_tests}
use Rattle.std.proofs.lemmas.List.Elements.{All-head, All-tail}
use Rattle.std.proofs.lemmas.List.Folds.{list_any_at}
use Rattle.std.specs.Option.{option_or}
use Rattle.machine.specs.declared.amount.Amount.{Amount}
use Rattle.machine.specs.declared.event.Goal.{Goal}
use Rattle.machine.specs.declared.id.PageId.{PageId}
use Rattle.machine.specs.Amounts.{exceeds}
use Rattle.machine.specs.Slots.{there_and, any_there}
use Rattle.machine.specs.Tree.{IsTree, is_live, under}
use Rattle.machine.specs.Pages.{Held, Page, Pages, page_at, is_anon, is_held, is_held_in, charged}
use Rattle.machine.specs.declared.record.Guard.{Guard}
use Rattle.machine.specs.declared.record.Guard.TheVariants.{Min, Low}
use Rattle.machine.specs.Protection.{effective, setting_of, is_beyond}
use Rattle.machine.specs.Order.{Cursor, heeds_age, takes_parts, asking_order, served_by, served_first, cursor_at}
use Rattle.machine.specs.declared.record.Kind.{Kind}
use Rattle.machine.specs.declared.record.Kind.TheVariants.{Anon, File}
use Rattle.machine.specs.Generations.{Listed, Gens, row_of, has_page, is_listed, gens_at}
use Rattle.machine.specs.Aging.{is_marked}
use Rattle.machine.specs.Eviction.{is_nil, has_usable, has_old_file}
use Rattle.machine.specs.Lists.{HeldLists, ListsHeld, AreGenerations, Order, PicksOf, is_held_of, seen_of, gives, gives_old, served, hits_at}
use Rattle.machine.proofs.SlotLemmas.{any_there-none, count_there-none}
use Rattle.machine.proofs.TreeLemmas.{eq_cases}
use Rattle.page_lists.proofs.HeldChanges.{unheld-unlisted}
use Rattle.group_tree.specs.Groups.{IsGroupTree}
use Rattle.group_tree.proofs.LineageLemmas.{live-within}
use Rattle.page_counter.specs.Counts.{usage_of}
use Rattle.protection.proofs.CallerLemmas.{effective-same}
use Rattle.pages.specs.PagesOf.{Label, label_of, labelled, HasResidence}
use Rattle.reclaim.specs.declared.cursors.Served.{Served}
use Rattle.reclaim.proofs.PassLemmas.{found-passes, asked-order}
use Rattle.page_state.specs.declared.joined.State.TheInside.{Inside}
use Rattle.page_state.specs.Joined.{joined_of, IsJoined}
use Rattle.machine.specs.State.{State, is_swap_free}
use Rattle.machine.specs.Reclaim.{is_beyond_its, is_unprotected, is_above_low, is_takeable, has_takeable, is_open, has_open, is_next}
use Rattle.page_lists.proofs.GiverLemmas.{one_passes, any_more, any_both, any_same, is_usable, may_give, usable_given}
use Rattle.page_lists.proofs.TakeableLemmas.{takeable-below}
use Rattle.counts.specs.Numbers.{times}
use Rattle.page_state.specs.Queue.{numbers_of}
use Rattle.held_pages.specs.Held.{KeepsRows}
use Rattle.held_pages.proofs.PickLemmas.{picked-usable}
use Rattle.page_state.specs.Owned.{AreListed}
use Rattle.page_state.proofs.KinLemmas.{kin-charged}
use Rattle.counts.proofs.NumberLemmas.{number-at, at-counted}
use Rattle.pages.proofs.TableLemmas.{any-some}
use Rattle.page_state.proofs.PartsLemmas.{any-listed, listed-any, held-stands-in}

-- ---- tests over lists

module _ {X : Type 0} where
  none_passes : (f : X → Bool) (xs : List X) → list_any f xs ≡ false → All (λ x. f x ≡ false) xs
  none_passes f xs none =
      λ k d lt.
      elim (f (get_or xs k d)) as (λ b. f (get_or xs k d) ≡ b → b ≡ false) [
        | true ↦ λ is. (let some : true ≡ false = sym (list_any_at f xs k d lt is) ∙ none in some)
        | false ↦ λ is. refl
      ] refl

  find_agree : (f h : X → Bool) (xs : List X) → All (λ x. f x ≡ h x) xs → find f xs ≡ find h xs
  find_agree f h [] same = refl
  find_agree f h (x ∷ xs) same =
      ap (λ b. cond b (Some x) (find f xs)) (All-head (λ y. f y ≡ h y) x xs same) ∙ ap (λ rest. cond (h x) (Some x) rest) (find_agree f h xs (All-tail (λ y. f y ≡ h y) x xs same))

  -- what the first of two tests that agree with these finds is what these find
  option_or-agree : {a b c d : Option X} → a ≡ c → b ≡ d → option_or a b ≡ option_or c d
  option_or-agree {a} {b} {c} {d} e k = ap (λ x. option_or x b) e ∙ ap (option_or c) k

-- ---- tests over the table

pub any-numbers : (f : ℕ → Bool) (xs : List PageId) → list_any (λ (x : PageId). f x.0) xs ≡ list_any f (numbers_of xs)
any-numbers f [] = refl
any-numbers f (x ∷ xs) = ap (λ b. f x.0 || b) (any-numbers f xs)

-- a test of the pages of a queue by their groups is that test of all pages that belong into it
module _ (test : Page → Bool) (more : ℕ → Bool) (numbers : List ℕ) (pages : Pages) (listed : AreListed test numbers pages) where
  passes : ℕ → Bool
  passes q = there_and (λ page. more page.group) (page_at pages q)

  pub any-queued : list_any (λ q. there_and (λ page. more page.group) (page_at pages q)) numbers ≡ any_there (λ page. test page && more page.group) pages
  unfolding passes
  any-queued =
      elim (list_any passes numbers) as (λ b. list_any passes numbers ≡ b → b ≡ any_there (λ page. test page && more page.group) pages) [
        | true ↦ λ is. sym
            (one_passes (λ q. 1 ≤ times numbers q) passes numbers (λ k d lt. number-at numbers k d lt) is
            (λ q counted is_more. listed-any test (λ page. more page.group) numbers pages q listed counted is_more))
        | false ↦ λ is. sym
            (any-listed test (λ page. more page.group) numbers pages listed (λ p counted. at-counted (λ q. passes q ≡ false) numbers (none_passes passes numbers is) p counted))
      ] refl

-- ---- what a group has on its lists

-- one test of a place is that a first passes, or a condition and a second
any_either : (f h k : Page → Bool) (b : Bool) (pages : Pages) → ((p : ℕ) → there_and k (page_at pages p) ≡ (there_and f (page_at pages p) || (b && there_and h (page_at pages p))))
    → (any_there f pages || (b && any_there h pages)) ≡ any_there k pages
any_either f h k true [] same = refl
any_either f h k false [] same = refl
any_either f h k b (slot ∷ pages) same = both b (there_and f slot) (there_and h slot) (any_there f pages) (any_there h pages) (same 0) (any_either f h k b pages (λ p. same (suc p)))
  where
    mixed : (b x y u v : Bool) → ((x || u) || (b && (y || v))) ≡ ((x || (b && y)) || (u || (b && v)))
    mixed b true y u v = refl
    mixed true false true true v = refl
    mixed true false true false v = refl
    mixed true false false u v = refl
    mixed false false y true v = refl
    mixed false false y false v = refl

    both : (b x y u v : Bool) → there_and k slot ≡ (x || (b && y)) → (u || (b && v)) ≡ any_there k pages → ((x || u) || (b && (y || v))) ≡ (there_and k slot || any_there k pages)
    both b x y u v here rest = mixed b x y u v ∙ ap (λ c. c || (u || (b && v))) (sym here) ∙ ap (λ c. there_and k slot || c) rest

module _ (pages : Pages) (held : HeldLists) (lists : ListsHeld pages held) where
  own : (l : Listed) (ls : List Listed) → has_page l.page (l ∷ ls) ≡ true
  own l ls = let same : (l.page == l.page) ≡ true = grind (arith, nat_tests) in ap (λ b. b || has_page l.page ls) same

  -- a row has a page where one of the group and the type is held
  some-held : (g : ℕ) (kind : Kind) → not (is_nil (row_of kind (gens_at held.groups g)).pages) ≡ any_there (is_held_of g kind) pages
  some-held g kind = by_row (row_of kind (gens_at held.groups g)).pages (lists.rows g kind)
    where
      by_row : (row : List Listed) → ((p : ℕ) → has_page p row ≡ there_and (is_held_of g kind) (page_at pages p)) → not (is_nil row) ≡ any_there (is_held_of g kind) pages
      by_row [] rows = sym (any_there-none (is_held_of g kind) pages (count_there-none (is_held_of g kind) pages (λ p. sym (rows p))))
      by_row (l ∷ ls) rows = sym (any-some (is_held_of g kind) pages l.page (sym (rows l.page) ∙ own l ls))

  -- a page may be taken of the group where one of a file is held, or a swap block is free and one of memory is held
  pub usable-held : (free : Bool) (g : ℕ) → has_usable free (gens_at held.groups g) ≡ any_there (is_usable free g) pages
  usable-held free g =
      by_free free ∙ ap (λ b. b || (free && not (is_nil (gens_at held.groups g).anon.pages))) (some-held g File) ∙ ap (λ b. any_there (is_held_of g File) pages || (free && b)) (some-held g Anon)
      ∙ any_either (is_held_of g File) (is_held_of g Anon) (is_usable free g) free pages (λ p. by_slot (page_at pages p))
    where
      either : (x y : Bool) → not (x && y) ≡ (not x || (true && not y))
      either true y = refl
      either false y = refl

      first : (x : Bool) (y : Bool) → not (x && true) ≡ (not x || (false && y))
      first true y = refl
      first false y = refl

      by_free : (b : Bool) → has_usable b (gens_at held.groups g) ≡ (not (is_nil (gens_at held.groups g).file.pages) || (b && not (is_nil (gens_at held.groups g).anon.pages)))
      by_free true = either (is_nil (gens_at held.groups g).file.pages) (is_nil (gens_at held.groups g).anon.pages)
      by_free false = first (is_nil (gens_at held.groups g).file.pages) (not (is_nil (gens_at held.groups g).anon.pages))

      split : (h e anon b : Bool) → (h && (e && (not anon || b))) ≡ ((h && (e && not anon)) || (b && (h && (e && anon))))
      split false e anon true = refl
      split false e anon false = refl
      split true false anon true = refl
      split true false anon false = refl
      split true true true true = refl
      split true true true false = refl
      split true true false b = refl

      by_slot : (slot : Option Page) → there_and (is_usable free g) slot ≡ (there_and (is_held_of g File) slot || (free && there_and (is_held_of g Anon) slot))
      by_slot None = sym (and_right free false refl)
      by_slot (Some page) = split (is_held page) (page.group == g) (is_anon page.content) free

  -- a page on the group's lists stands in a frame
  pub listed-stands : (g p : ℕ) → is_listed (gens_at held.groups g) p ≡ true → (label : Label) × (f : ℕ) × HasResidence pages p label (Held f) × (label.group ≡ g)
  listed-stands g p listed =
      by_slot (page_at pages p)
      (sym (ap (λ b. b || has_page p (gens_at held.groups g).anon.pages) (lists.rows g File p) ∙ ap (λ b. there_and (is_held_of g File) (page_at pages p) || b) (lists.rows g Anon p)) ∙ listed)
    where
      either : (h e anon : Bool) → ((h && (e && not anon)) || (h && (e && anon))) ≡ true → (h && e) ≡ true
      either true true anon is = refl
      either true false anon is = absurd cc
      either false e anon is = absurd cc

      by_slot : (slot : Option Page) → (there_and (is_held_of g File) slot || there_and (is_held_of g Anon) slot) ≡ true → (label : Label) × (f : ℕ) × (slot ≡ Some (labelled label (Held f))) × (label.group ≡ g)
      by_slot None e = absurd cc
      by_slot (Some page) e =
          let both = and_parts (is_held page) (page.group == g) (either (is_held page) (page.group == g) (is_anon page.content) e) in
          let same : page.group ≡ g = grind (arith, nat_tests, both.1) in
          let stands = held-stands-in page both.0 in
          (label_of page, stands.0, stands.1, same)

  -- after a search the lists have the held pages still
  pub held-searched : (held' : HeldLists) → KeepsRows held held' → ListsHeld pages held'
  held-searched held' keeps =
      record {
        rows = λ g kind p. keeps.rows g kind p ∙ lists.rows g kind p;
        marked = λ p marked. by_held p (is_held_in pages p) refl marked;
        counted = λ p gone. ap (λ (ns : List ℕ). hits_at ns p) keeps.hits ∙ lists.counted p gone;
      }
    where
      by_held : (p : ℕ) (b : Bool) → is_held_in pages p ≡ b → is_marked held'.marks p ≡ true → b ≡ true
      by_held p true is marked = refl
      by_held p false is marked = sym is ∙ lists.marked p (sym (keeps.marks p (unheld-unlisted pages held lists p is)) ∙ marked)

-- ---- the groups

same_open : (is_target : Bool) {n m : ℕ} {e k : Amount} → n ≡ m → e ≡ k → (is_target || exceeds n e) ≡ (is_target || exceeds m k)
same_open is_target p q = cc

module _ (s : Inside) (is : IsJoined s) where
  abbrev tables : State
  tables = (joined_of s).tables

  -- what is counted is what is charged
  pub usages : (a : ℕ) → a < length s.tree → usage_of s.parts.counters a ≡ charged s.tree s.parts.pages.pages a
  usages a lt = let len = is.held_kin.len in is.agree.kept.counted.counts a (omega (arith, len, lt)) ∙ kin-charged s.parts.counters.tree s.tree is.held_kin s.parts.pages.pages a

  pub live_at : (p : ℕ) → IfSome (page_at s.parts.pages.pages p) (λ page. is_live s.tree page.group ≡ true)
  live_at p = by_slot (page_at s.parts.pages.pages p) (is.agree.kept.counted.live p)
    where
      by_slot : (slot : Option Page) → IfSome slot (λ page. is_live s.parts.counters.tree page.group ≡ true) → IfSome slot (λ page. is_live s.tree page.group ≡ true)
      by_slot None live = tt
      by_slot (Some page) live = sym (is.held_kin.living page.group) ∙ live

  module _ (order : IsTree s.tree) (target : ℕ) where
    pub effective-charged : (guard : Guard) (g : ℕ) → is_live s.tree g ≡ true → target ≢ g → under s.tree target g ≡ true
        → effective tables.opening.recursive s.tree (setting_of guard s.parts.counters.limits) (usage_of s.parts.counters) target g ≡ effective tables.opening.recursive s.tree (setting_of guard s.parts.counters.limits) (charged s.tree s.parts.pages.pages) target g
    effective-charged guard g live differs below =
        effective-same s.tree order target tables.opening.recursive (setting_of guard s.parts.counters.limits) (usage_of s.parts.counters) (charged s.tree s.parts.pages.pages) usages g (live-within s.tree g live) differs below

    -- by the counters the setting does not protect the group from a reclaim of the target
    abbrev beyond : Guard → ℕ → Bool
    beyond guard g = is_beyond tables.opening.recursive s.tree (setting_of guard s.parts.counters.limits) (usage_of s.parts.counters) target g

    pub beyond-same : (guard : Guard) (g : ℕ) → is_live s.tree g ≡ true → under s.tree target g ≡ true → is_beyond_its guard tables target g ≡ beyond guard g
    beyond-same guard g live below =
        elim (eq_cases g target) [
          | inl same ↦
              (let hit : (g == target) ≡ true = grind (arith, nat_tests, same) in
              ap (λ b. b || exceeds (charged s.tree s.parts.pages.pages g) (effective tables.opening.recursive s.tree (setting_of guard s.parts.counters.limits) (charged s.tree s.parts.pages.pages) target g)) hit
              ∙ sym (ap (λ b. b || exceeds (usage_of s.parts.counters g) (effective tables.opening.recursive s.tree (setting_of guard s.parts.counters.limits) (usage_of s.parts.counters) target g)) hit))
          | inr other ↦ same_open (g == target) (sym (usages g (live-within s.tree g live))) (sym (effective-charged guard g live (λ e. other (sym e)) below))
        ]

    -- a swap block is free
    abbrev free : Bool
    free = is_swap_free tables

    -- by these lists the group gives one, in a pass that takes from groups within their low or in one that does not
    abbrev pub listed_by : Bool → List Gens → Bool → Bool → ℕ → Bool
    listed_by recursive groups swap_free low_reclaim g =
        (is_beyond recursive s.tree (setting_of Min s.parts.counters.limits) (usage_of s.parts.counters) target g && (low_reclaim || is_beyond recursive s.tree (setting_of Low s.parts.counters.limits) (usage_of s.parts.counters) target g))
        && has_usable swap_free (gens_at groups g)

    abbrev pub NoneListedBy : Bool → List Gens → Bool → Bool → Type 0
    NoneListedBy recursive groups swap_free low_reclaim = (g : ℕ) → is_live s.tree g ≡ true → under s.tree target g ≡ true → listed_by recursive groups swap_free low_reclaim g ≡ false

    -- and has an old page of a file
    abbrev pub listed_old_by : Bool → List Gens → List Bool → Bool → Bool → ℕ → Bool
    listed_old_by recursive groups marks swap_free low_reclaim g = listed_by recursive groups swap_free low_reclaim g && has_old_file (record { gens = gens_at groups g; marks = marks })

    abbrev listed : Bool → ℕ → Bool
    listed = listed_by tables.opening.recursive s.parts.held.lists.groups free

    abbrev listed_old : Bool → ℕ → Bool
    listed_old = listed_old_by tables.opening.recursive s.parts.held.lists.groups s.parts.held.lists.marks free

    abbrev NoneListed : Bool → Type 0
    NoneListed = NoneListedBy tables.opening.recursive s.parts.held.lists.groups free

    -- a page is taken in such a pass
    abbrev passes_in : Bool → Page → Bool
    passes_in low_reclaim page = is_takeable tables target page && (is_above_low tables target page.group || low_reclaim)

    abbrev gives_in : Bool → ℕ → Bool
    gives_in low_reclaim g = any_there (λ page. (page.group == g) && passes_in low_reclaim page) s.parts.pages.pages

    -- a group below the target gives one, by the table and by the lists
    pub listed-same : (low_reclaim : Bool) (g : ℕ) → is_live s.tree g ≡ true → under s.tree target g ≡ true → gives_in low_reclaim g ≡ listed low_reclaim g
    listed-same low_reclaim g live below =
        any_both (is_usable free g) (λ page. (page.group == g) && passes_in low_reclaim page) (beyond Min g && (low_reclaim || beyond Low g)) s.parts.pages.pages (λ p. by_slot (page_at s.parts.pages.pages p))
        ∙ ap (λ b. (beyond Min g && (low_reclaim || beyond Low g)) && b) (sym (usable-held s.parts.pages.pages s.parts.held.lists is.agree.held free g))
      where
        bits : (t o b a l : Bool) → ((((t && true) && o) && b) && (a || l)) ≡ ((o && (l || a)) && (t && b))
        bits false false b a l = refl
        bits false true b a true = refl
        bits false true b true false = refl
        bits false true b false false = refl
        bits true false b a l = refl
        bits true true false a true = refl
        bits true true false true false = refl
        bits true true false false false = refl
        bits true true true true true = refl
        bits true true true true false = refl
        bits true true true false true = refl
        bits true true true false false = refl

        own_bits : (t u o o' b a a' l : Bool) → u ≡ true → o ≡ o' → a ≡ a' → ((((t && u) && o) && b) && (a || l)) ≡ ((o' && (l || a')) && (t && b))
        own_bits t u o o' b a a' l below same_min same_low = rw (below, same_min, same_low) (bits t o' b a' l)

        by_test : (page : Page) (e : Bool) → (page.group == g) ≡ e → (e && passes_in low_reclaim page) ≡ ((beyond Min g && (low_reclaim || beyond Low g)) && (is_held page && (e && (not (is_anon page.content) || free))))
        by_test page true hit =
            let same : page.group ≡ g = grind (arith, nat_tests, hit) in
            own_bits (is_held page) (under s.tree target page.group) (is_unprotected tables target page.group) (beyond Min g) (not (is_anon page.content) || free) (is_above_low tables target page.group) (beyond Low g) low_reclaim
            (ap (under s.tree target) same ∙ below) (ap (is_unprotected tables target) same ∙ beyond-same Min g live below) (ap (is_above_low tables target) same ∙ beyond-same Low g live below)
        by_test page false miss = sym (ap (λ b. (beyond Min g && (low_reclaim || beyond Low g)) && b) (and_right (is_held page) false refl) ∙ and_right (beyond Min g && (low_reclaim || beyond Low g)) false refl)

        by_slot : (slot : Option Page) → there_and (λ page. (page.group == g) && passes_in low_reclaim page) slot ≡ ((beyond Min g && (low_reclaim || beyond Low g)) && there_and (is_usable free g) slot)
        by_slot None = sym (and_right (beyond Min g && (low_reclaim || beyond Low g)) false refl)
        by_slot (Some page) = by_test page (page.group == g) refl

    -- where no group gives one in such a pass, no page may be taken in it
    none_taken : (low_reclaim : Bool) → NoneListed low_reclaim → any_there (passes_in low_reclaim) s.parts.pages.pages ≡ false
    none_taken low_reclaim none = any_there-none (passes_in low_reclaim) s.parts.pages.pages (count_there-none (passes_in low_reclaim) s.parts.pages.pages (λ p. by_slot p (page_at s.parts.pages.pages p) refl (live_at p)))
      where
        fails : (p : ℕ) (page : Page) → page_at s.parts.pages.pages p ≡ Some page → is_live s.tree page.group ≡ true → passes_in low_reclaim page ≡ true → passes_in low_reclaim page ≡ false
        fails p page there alive passes =
            let below = takeable-below tables target page (and_parts (is_takeable tables target page) _ passes).0 in
            let own : (page.group == page.group) ≡ true = grind (arith, nat_tests) in
            let given = any-some (λ (x : Page). (x.group == page.group) && passes_in low_reclaim x) s.parts.pages.pages p
            (ap (there_and (λ (x : Page). (x.group == page.group) && passes_in low_reclaim x)) there ∙ and_from (page.group == page.group) (passes_in low_reclaim page) own passes) in
            let told = sym (listed-same low_reclaim page.group alive below) ∙ given in
            let wrong : true ≡ false = sym told ∙ none page.group alive below in
            absurd cc

        by_slot : (p : ℕ) (slot : Option Page) → page_at s.parts.pages.pages p ≡ slot → IfSome slot (λ page. is_live s.tree page.group ≡ true) → there_and (passes_in low_reclaim) slot ≡ false
        by_slot p None there alive = refl
        by_slot p (Some page) there alive =
            elim (cases_Bool (passes_in low_reclaim page)) [
              | inl passes ↦ fails p page there alive passes
              | inr not_so ↦ not_so
            ]

    -- where a group gives one in such a pass, a page may be taken in it
    one_taken : (low_reclaim : Bool) (g : ℕ) → is_live s.tree g ≡ true → under s.tree target g ≡ true → listed low_reclaim g ≡ true → any_there (passes_in low_reclaim) s.parts.pages.pages ≡ true
    one_taken low_reclaim g live below given =
        any_more (there_and (λ page. (page.group == g) && passes_in low_reclaim page)) (there_and (passes_in low_reclaim)) s.parts.pages.pages passes (listed-same low_reclaim g live below ∙ given)
      where
        passes : (slot : Option Page) → there_and (λ page. (page.group == g) && passes_in low_reclaim page) slot ≡ true → there_and (passes_in low_reclaim) slot ≡ true
        passes None e = e
        passes (Some page) e = (and_parts (page.group == g) _ e).1

    -- an open page is one that is taken in the first pass, and a takeable one in the second
    first_pass : any_there (passes_in false) s.parts.pages.pages ≡ has_open tables target
    first_pass = any_same (passes_in false) (is_open tables target) s.parts.pages.pages (λ page. ap (λ b. is_takeable tables target page && b) (or_right_false (is_above_low tables target page.group)))
      where
        or_right_false : (b : Bool) → (b || false) ≡ b
        or_right_false true = refl
        or_right_false false = refl

    second_pass : any_there (passes_in true) s.parts.pages.pages ≡ has_takeable tables target
    second_pass = any_same (passes_in true) (is_takeable tables target) s.parts.pages.pages (λ page. by_bits (is_takeable tables target page) (is_above_low tables target page.group))
      where
        by_bits : (a b : Bool) → (a && (b || true)) ≡ a
        by_bits true true = refl
        by_bits true false = refl
        by_bits false b = refl

    takeable-passes : (low_reclaim : Bool) → any_there (passes_in low_reclaim) s.parts.pages.pages ≡ true → has_takeable tables target ≡ true
    takeable-passes low_reclaim given = any_more (there_and (passes_in low_reclaim)) (there_and (is_takeable tables target)) s.parts.pages.pages by_slot given
      where
        by_slot : (slot : Option Page) → there_and (passes_in low_reclaim) slot ≡ true → there_and (is_takeable tables target) slot ≡ true
        by_slot None e = e
        by_slot (Some page) e = (and_parts (is_takeable tables target page) _ e).0

    -- in the pass that serves a group, the one by the lists is the one by the table
    module _ (groups : IsGroupTree s.tree) (live : is_live s.tree target ≡ true) (heeds parts : Bool) (last : Cursor) (low_reclaim : Bool) (which : low_reclaim ≡ not (has_open tables target)) where
      -- each group that is asked gives a page by the table where it does by the lists
      gives-listed : All (λ g. gives tables target g ≡ listed low_reclaim g) (asking_order parts s.tree target last)
      gives-listed =
          λ k d lt.
          let here = asked-order s.tree target parts last groups live k d lt in
          ap (λ low. gives_in low (get_or (asking_order parts s.tree target last) k d)) (sym which) ∙ listed-same low_reclaim (get_or (asking_order parts s.tree target last) k d) here.0 here.1

      pub served-listed : served_first heeds parts s.tree (gives_old tables s.parts.held.lists target) (gives tables target) target last ≡ served_first heeds parts s.tree (listed_old low_reclaim) (listed low_reclaim) target last
      served-listed = by_age heeds
        where
          by_turns : served_by parts s.tree (gives tables target) target last ≡ served_by parts s.tree (listed low_reclaim) target last
          by_turns = find_agree (gives tables target) (listed low_reclaim) (asking_order parts s.tree target last) gives-listed

          old_first : served_by parts s.tree (gives_old tables s.parts.held.lists target) target last ≡ served_by parts s.tree (listed_old low_reclaim) target last
          old_first =
              find_agree (gives_old tables s.parts.held.lists target) (listed_old low_reclaim) (asking_order parts s.tree target last)
              (λ k d lt. ap (λ b. b && has_old_file (seen_of s.parts.held.lists (get_or (asking_order parts s.tree target last) k d))) (gives-listed k d lt))

          by_age : (b : Bool) → served_first b parts s.tree (gives_old tables s.parts.held.lists target) (gives tables target) target last ≡ served_first b parts s.tree (listed_old low_reclaim) (listed low_reclaim) target last
          by_age false = by_turns
          by_age true = option_or-agree old_first by_turns

    -- what the pass says of the group that it finds
    pub record Found (heeds parts : Bool) (last : Cursor) (found : Served) : Type 0 where
      pub turn : served_first heeds parts s.tree (listed_old found.low_reclaim) (listed found.low_reclaim) target last ≡ Some found.group.0
      pub live : is_live s.tree found.group.0 ≡ true
      pub below : under s.tree target found.group.0 ≡ true
      pub given : listed found.low_reclaim found.group.0 ≡ true
      pub spared : found.low_reclaim ≡ true → NoneListed false

    module _ (groups : IsGroupTree s.tree) (live : is_live s.tree target ≡ true) (heeds parts : Bool) (last : Cursor) (found : Served) (is_found : Found heeds parts last found) where
      -- it is the second one exactly where no page is open
      pub passes-low : found.low_reclaim ≡ not (has_open tables target)
      passes-low = by_pass found.low_reclaim is_found.spared (λ e. one_taken found.low_reclaim found.group.0 is_found.live is_found.below is_found.given) refl
        where
          by_pass : (low : Bool) → (low ≡ true → NoneListed false) → (found.low_reclaim ≡ low → any_there (passes_in found.low_reclaim) s.parts.pages.pages ≡ true) → found.low_reclaim ≡ low → low ≡ not (has_open tables target)
          by_pass true spared given is = ap not (sym (sym first_pass ∙ none_taken false (spared refl)))
          by_pass false spared given is = ap not (sym (sym first_pass ∙ ap (λ low. any_there (passes_in low) s.parts.pages.pages) (sym is) ∙ given is))

      -- and the group is the one that the table tells
      pub turn-is : served_first heeds parts s.tree (gives_old tables s.parts.held.lists target) (gives tables target) target last ≡ Some found.group.0
      turn-is = served-listed groups live heeds parts last found.low_reclaim passes-low ∙ is_found.turn

      pub one-is : has_takeable tables target ≡ true
      one-is = takeable-passes found.low_reclaim (one_taken found.low_reclaim found.group.0 is_found.live is_found.below is_found.given)

    -- where the second pass finds nothing, nothing may be taken
    pub none-is : NoneListed true → has_takeable tables target ≡ false
    none-is none = sym second_pass ∙ none_taken true none

-- ---- the page that a group gives

module _ (t : State) (target g : ℕ) where
  -- a group that is served has a page to give
  pub served-gives : (order : Order) (goal : Goal) → served t order goal target ≡ Some g → gives t target g ≡ true
  served-gives order goal serves = by_age (heeds_age t.opening.placement goal target) serves
    where
      passes : (test : ℕ → Bool) → served_by (takes_parts t.opening.placement goal) t.tree test target (cursor_at order.cursors target) ≡ Some g → test g ≡ true
      passes test found = (found-passes (λ (x : ℕ). Unit {0}) test (asking_order (takes_parts t.opening.placement goal) t.tree target (cursor_at order.cursors target)) g (λ k d lt. tt) found).1

      by_front : (front : Option ℕ) → served_by (takes_parts t.opening.placement goal) t.tree (gives_old t order.held target) target (cursor_at order.cursors target) ≡ front → option_or front (served_by (takes_parts t.opening.placement goal) t.tree (gives t target) target (cursor_at order.cursors target)) ≡ Some g → gives t target g ≡ true
      by_front None is later = passes (gives t target) later
      by_front (Some h) is here = (and_parts (gives t target g) _ (passes (gives_old t order.held target) (is ∙ here))).0

      by_age : (b : Bool) → served_first b (takes_parts t.opening.placement goal) t.tree (gives_old t order.held target) (gives t target) target (cursor_at order.cursors target) ≡ Some g → gives t target g ≡ true
      by_age false found = passes (gives t target) found
      by_age true found = by_front (served_by (takes_parts t.opening.placement goal) t.tree (gives_old t order.held target) target (cursor_at order.cursors target)) refl found

  module _ (order : Order) (goal : Goal) (serves : served t order goal target ≡ Some g) (lists : ListsHeld t.pages order.held) where
    -- and one on its lists
    pub given-usable : has_usable (is_swap_free t) (gens_at order.held.groups g) ≡ true
    given-usable = usable-held t.pages order.held lists (is_swap_free t) g ∙ usable_given t target g (served-gives order goal serves)

    -- the page that is picked may be taken, memory where a swap block is free
    pub given-takes : AreGenerations order.held → (p : ℕ) (looked : HeldLists) (label : Label) (f : ℕ) → label.group ≡ g → HasResidence t.pages p label (Held f) → PicksOf (is_swap_free t) order.held g (Some p) looked
        → is_next t target (labelled label (Held f)) ≡ true
    given-takes sound p looked label f own stands picked =
        let may = may_give t target g (served-gives order goal serves) in
        and_from (is_takeable t target (labelled label (Held f))) (is_above_low t target label.group || not (has_open t target))
        (and_from (true && under t.tree target label.group && is_unprotected t target label.group) (not (is_anon label.content) || is_swap_free t)
        (and_from (under t.tree target label.group) (is_unprotected t target label.group) (ap (under t.tree target) own ∙ may.below) (ap (is_unprotected t target) own ∙ may.opened))
        (picked-usable (is_swap_free t) t.pages order.held looked g p lists sound picked (labelled label (Held f)) stands))
        (ap (λ h. is_above_low t target h || not (has_open t target)) own ∙ may.now)

-- and for memory a swap block is free
pub takeable-swap : (t : State) (target : ℕ) (page : Page) → is_takeable t target page ≡ true → is_anon page.content ≡ true → is_swap_free t ≡ true
takeable-swap t target page e anon = last (is_held page) (under t.tree target page.group) (is_unprotected t target page.group) (is_anon page.content) (is_swap_free t) e anon
  where
    last : (a b c m d : Bool) → (a && b && c && (not m || d)) ≡ true → m ≡ true → d ≡ true
    last true true true true d e anon = e
    last true true true false d e anon = absurd cc
    last true true false m d e anon = absurd cc
    last true false c m d e anon = absurd cc
    last false b c m d e anon = absurd cc
