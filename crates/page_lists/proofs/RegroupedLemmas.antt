-- A removed group: no task is of it, and nothing below it; whose its pages become, and what stays as it was. And whose a page becomes that is read in.
use Rattle.std.proofs.Common.{◌≡◌, ◌≢◌, ◌⊎◌, inl, inr, ℕ, zero, suc, ◌<◌, ◌==◌, ◌&&◌, ◌||◌, Bool, true, false, cond, List, Option, Some, None, eq-eqb, eqb-true, refl, sym, ap, ◌∙◌, arith}
use Rattle.std.specs.Prelude.{option_map, IfSome}
use Rattle.machine.specs.declared.config.Placement.{Placement}
use Rattle.machine.specs.declared.config.Placement.TheVariants.{Own, Linux}
use Rattle.machine.specs.declared.record.Task.{Task}
use Rattle.machine.specs.Slots.{there_and, count_there}
use Rattle.machine.specs.Tree.{Node, node_at, is_live, is_parent, is_child, has_children, under_at, under, IsTree, without_group}
use Rattle.machine.specs.Tasks.{Tasks, task_at, is_live_task, is_live_in, has_tasks, lives, group_of, group_of_task}
use Rattle.machine.specs.Pages.{Residence, Held, Coming, Going, Away, Page, Pages, page_at, frame_at, is_some_number, is_held_at, has_frame, is_charged, charged}
use Rattle.machine.specs.Access.{charged_from_swap}
use Rattle.machine.specs.State.{State, usage}
use Rattle.machine.specs.Step.{heir, regrouped, Removes}
use Rattle.machine.proofs.Values.{some_inj, never_some, unlike}
use Rattle.machine.proofs.TreeLemmas.{eq_cases, under_at-None, under_at-step}
use Rattle.machine.proofs.TestLemmas.{none_has}
use Rattle.machine.proofs.RemovedLemmas.{no_child, without-under, under-parent, heir-either, heir-low, count-alike}

-- ---- nobody is left

-- no live task is of a group without tasks
pub elsewhere : (tasks : Tasks) (g t : ℕ) → has_tasks tasks g ≡ false → lives tasks t ≡ true → group_of_task tasks t ≢ g
elsewhere tasks g t none alive same = by_task (task_at tasks t) alive same (none_has (is_live_in g) tasks none t)
  where
    by_task : (slot : Option Task) → there_and is_live_task slot ≡ true → group_of slot ≡ g → there_and (is_live_in g) slot ≡ false → ⊥
    by_task None h e empty = absurd (let wrong : false ≡ true = h in cc)
    by_task (Some task) h e empty = unlike (is_live_task task && (task.group.0 == g)) (ap (λ (b : Bool). b && (task.group.0 == g)) h ∙ eq-eqb task.group.0 g e) empty

module _ (tree : List Node) (g : ℕ) (falls : IsTree tree) (parents : (h p : ℕ) → is_live tree h ≡ true → (node_at tree h).parent ≡ Some p → is_live tree p ≡ true) (childless : has_children tree g ≡ false) where
  under-by : (h : ℕ) → ((q : ℕ) → q < h → is_live tree q ≡ true → under tree g q ≡ true → q ≡ g) → is_live tree h ≡ true → h ≢ g → under tree g h ≡ true → ⊥
  under-by h lower live other above = by_parent (node_at tree h).parent refl (sym (under_at-step tree falls g h) ∙ above)
    where
      differs : (b : Bool) → (g == h) ≡ b → (x : Bool) → (b || x) ≡ true → x ≡ true
      differs true same x e = absurd (other (sym (eqb-true g h same)))
      differs false same x e = e

      by_parent : (at : Option ℕ) → (node_at tree h).parent ≡ at → ((g == h) || under_at tree g (node_at tree h).parent) ≡ true → ⊥
      by_parent None up e = unlike (under_at tree g None) (sym (ap (under_at tree g) up) ∙ differs (g == h) refl (under_at tree g (node_at tree h).parent) e) (under_at-None tree falls g)
      by_parent (Some q) up e =
          let higher = sym (ap (under_at tree g) up) ∙ differs (g == h) refl (under_at tree g (node_at tree h).parent) e in
          let same : q ≡ g = lower q (falls.falls h q up) (parents h q live up) higher in
          unlike (is_child g (node_at tree h)) (ap (λ (b : Bool). b && is_parent (node_at tree h).parent g) live ∙ ap (λ (o : Option ℕ). is_parent o g) up ∙ eq-eqb q g same) (no_child tree g h childless)

  under-in : (n h : ℕ) → h < n → is_live tree h ≡ true → under tree g h ≡ true → h ≡ g
  under-in zero h lt live above = absurd (omega (arith, lt))
  under-in (suc n) h lt live above =
      elim (eq_cases h g) [
        | inl same ↦ same
        | inr other ↦ absurd (under-by h (λ q less. under-in n q (omega (arith, less, lt))) live other above)
      ]

  -- nothing live is below a group without children
  pub under-alone : (h : ℕ) → is_live tree h ≡ true → h ≢ g → under tree g h ≡ false
  under-alone h live other = by_test (under tree g h) refl
    where
      by_test : (b : Bool) → under tree g h ≡ b → under tree g h ≡ false
      by_test true above = absurd (other (under-in (suc h) h (omega arith) live above))
      by_test false none = none

-- ---- the group

-- a page of a removed group becomes another group's
pub heir-other : (placement : Placement) (g parent : ℕ) (r : Residence) → parent < g → heir placement parent r ≢ g
heir-other placement g parent r less same = let low = heir-low placement parent r in omega (arith, less, same, low)

-- which is there if the parent and the root are
pub heir-live : (placement : Placement) (tree : List Node) (parent : ℕ) (r : Residence) → is_live tree 0 ≡ true → is_live tree parent ≡ true → is_live tree (heir placement parent r) ≡ true
heir-live placement tree parent r root up = elim (heir-either placement parent r) [ inl same ↦ ap (is_live tree) same ∙ up | inr first ↦ ap (is_live tree) first ∙ root ]

-- and the parent if the page has a frame
pub heir-framed : (placement : Placement) (parent : ℕ) (r : Residence) → is_some_number (frame_at r) ≡ true → heir placement parent r ≡ parent
heir-framed Own parent r framed = refl
heir-framed Linux parent (Held frame) framed = refl
heir-framed Linux parent (Coming frame block ticket) framed = refl
heir-framed Linux parent (Going frame block ticket) framed = refl
heir-framed Linux parent (Away block) framed = absurd (let wrong : false ≡ true = framed in cc)

-- a held page has a frame
pub held-framed : (r : Residence) → is_held_at r ≡ true → is_some_number (frame_at r) ≡ true
held-framed (Held frame) held = refl
held-framed (Coming frame block ticket) held = refl
held-framed (Going frame block ticket) held = refl
held-framed (Away block) held = held

-- a page that comes back from its swap block is charged to its own group or to its reader's
pub swap-either : (placement : Placement) (g own : ℕ) → (charged_from_swap placement g own ≡ g) ⊎ (charged_from_swap placement g own ≡ own)
swap-either Own g own = inl refl
swap-either Linux g own = by_root (g == 0)
  where
    by_root : (b : Bool) → (cond b own g ≡ g) ⊎ (cond b own g ≡ own)
    by_root true = inr refl
    by_root false = inl refl

-- ---- the page

-- a page of the group is another's
pub regrouped-own : (placement : Placement) (g parent : ℕ) (x : Page) → x.group ≡ g → regrouped placement g parent x ≡ (record x { group = heir placement parent x.residence })
regrouped-own placement g parent x own = ap (λ b. record { content = x.content; group = cond b (heir placement parent x.residence) x.group; dirty = x.dirty; residence = x.residence }) (eq-eqb x.group g own)

-- a page of another group stays as it is
pub regrouped-other : (placement : Placement) (g parent : ℕ) (page : Page) → page.group ≢ g → regrouped placement g parent page ≡ page
regrouped-other placement g parent page other = by_test (page.group == g) refl
  where
    by_test : (b : Bool) → (page.group == g) ≡ b → regrouped placement g parent page ≡ page
    by_test true same = absurd (other (eqb-true page.group g same))
    by_test false differs = ap (λ b. record { content = page.content; group = cond b (heir placement parent page.residence) page.group; dirty = page.dirty; residence = page.residence }) differs

-- and a page of an earlier group is not the group's
pub regrouped-left : (placement : Placement) (g parent : ℕ) (page : Page) → parent < g → (regrouped placement g parent page).group ≢ g
regrouped-left placement g parent page lower same = by_test (page.group == g) refl same
  where
    by_test : (b : Bool) → (page.group == g) ≡ b → cond b (heir placement parent page.residence) page.group ≡ g → ⊥
    by_test true is same = heir-other placement g parent page.residence lower same
    by_test false differs same = unlike (page.group == g) (eq-eqb page.group g same) differs

-- what does not look at a page's group sees no change
pub regrouped-test : (test : Page → Bool) (placement : Placement) (from to : ℕ) → ((page : Page) → test (regrouped placement from to page) ≡ test page) → (slot : Option Page)
    → there_and test (option_map (regrouped placement from to) slot) ≡ there_and test slot
regrouped-test test placement from to same None = refl
regrouped-test test placement from to same (Some page) = same page

pub regrouped-some : (P Q : Page → Type 0) (placement : Placement) (from to : ℕ) → ((page : Page) → P page → Q (regrouped placement from to page)) → (slot : Option Page) → IfSome slot P
    → IfSome (option_map (regrouped placement from to) slot) Q
regrouped-some P Q placement from to on None h = h
regrouped-some P Q placement from to on (Some page) h = on page h

-- a page that is there was there, with another group at most
pub regrouped-was : (placement : Placement) (from to : ℕ) (slot : Option Page) (now : Page) → option_map (regrouped placement from to) slot ≡ Some now
    → (page : Page) × (slot ≡ Some page) × (now ≡ regrouped placement from to page)
regrouped-was placement from to None now e = absurd (never_some {P = ⊥} {T = Page} None refl e)
regrouped-was placement from to (Some page) now e = (page, refl, sym (some_inj e))

-- as many pages pass a test that does not look at their group
pub count-regrouped : (placement : Placement) (from to : ℕ) (pages pages' : Pages) → ((p : ℕ) → page_at pages' p ≡ option_map (regrouped placement from to) (page_at pages p)) → (test : Page → Bool)
    → ((page : Page) → test (regrouped placement from to page) ≡ test page) → count_there test pages' ≡ count_there test pages
count-regrouped placement from to pages pages' handed test same = count-alike test test pages pages' (λ n. ap (there_and test) (handed n) ∙ regrouped-test test placement from to same (page_at pages n))

-- ---- what is charged

module _ (old new : State) (g : ℕ) (falls : IsTree old.tree) (removes : Removes old g new) where
  charged-at : (a : ℕ) → a ≢ g → (slot : Option Page)
      → there_and (is_charged (without_group old.tree g) a) (option_map (regrouped old.opening.placement g removes.parent) slot) ≡ there_and (is_charged old.tree a) slot
  charged-at a other None = refl
  charged-at a other (Some page) = by_frame (has_frame page) refl
    where
      to : ℕ
      to = heir old.opening.placement removes.parent page.residence

      by_group : to ≡ removes.parent → (b : Bool) → (page.group == g) ≡ b → under old.tree a (cond b to page.group) ≡ under old.tree a page.group
      by_group up true is = ap (under old.tree a) up ∙ sym (under-parent old.tree falls a g removes.parent removes.below other) ∙ ap (under old.tree a) (sym (eqb-true page.group g is))
      by_group up false is = refl

      -- a page without a frame is charged to nobody
      by_frame : (b : Bool) → has_frame page ≡ b → (b && under (without_group old.tree g) a (cond (page.group == g) to page.group)) ≡ (b && under old.tree a page.group)
      by_frame false unframed = refl
      by_frame true framed =
          without-under old.tree g a (Some (cond (page.group == g) to page.group)) ∙ by_group (heir-framed old.opening.placement removes.parent page.residence framed) (page.group == g) refl

  -- every other group is charged for as much as before
  pub usage-removed : (a : ℕ) → a ≢ g → usage new a ≡ usage old a
  usage-removed a other =
      ap (λ (s : State). charged s.tree new.pages a) removes.state
      ∙ count-alike (is_charged old.tree a) (is_charged (without_group old.tree g) a) old.pages new.pages
      (λ n. ap (there_and (is_charged (without_group old.tree g) a)) (removes.pages n) ∙ charged-at a other (page_at old.pages n))
