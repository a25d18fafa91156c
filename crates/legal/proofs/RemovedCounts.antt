-- What a removal leaves of counts and of lists, and that nothing is charged to a group that is not there.
use Rattle.std.proofs.Common.{◌≡◌, ◌≢◌, inl, inr, ℕ, zero, suc, ◌<◌, ◌≤◌, ◌==◌, ◌&&◌, ◌||◌, Bool, true, false, cond, List, length, Option, Some, None, eqb-true, eq-eqb, refl, sym, ap, ◌∙◌, subst, arith, length-set}
use Rattle.std.specs.Prelude.{IfSome, option_map}
use Rattle.std.proofs.lemmas.Bool.{cases_lt, and_parts}
use Rattle.std.proofs.Math.ListN.{get_or-eq_default}
use Rattle.machine.specs.declared.id.GroupId.{GroupId}
use Rattle.machine.specs.declared.event.Event.TheVariants as event
use Rattle.machine.specs.declared.record.Key.{Key}
use Rattle.machine.specs.declared.record.Kind.{Kind}
use Rattle.machine.specs.declared.record.Kind.TheVariants.{Anon, File}
use Rattle.machine.specs.declared.reply.Reply.{Reply}
use Rattle.machine.specs.declared.reply.Reply.TheVariants as reply
use Rattle.machine.specs.Slots.{there_and, count_there}
use Rattle.machine.specs.Tree.{Node, no_node, node_at, is_live, under_at, under, IsTree, without_group}
use Rattle.machine.specs.Pages.{Page, page_at, has_frame, is_charged, charged, is_in_transfer, in_transfer}
use Rattle.machine.specs.Counts.{total}
use Rattle.machine.specs.State.{State, usage}
use Rattle.machine.specs.Step.{heir, regrouped, Removes, Step}
use Rattle.machine.specs.Generations.{Gens, row_of, gens_at, with_gens, taken_over, emptied, handed_over}
use Rattle.machine.specs.Lists.{HeldLists, ListsHeld, AreGenerations}
use Rattle.machine.proofs.Values.{never_some, unlike}
use Rattle.machine.proofs.TreeLemmas.{eq_cases, under_at-None, under_at-step}
use Rattle.machine.proofs.RemovedLemmas.{without-parent, without-under}
use Rattle.page_lists.proofs.RegroupedLemmas.{count-regrouped, usage-removed}
use Rattle.machine.proofs.SlotLemmas.{count_there-none}
use Rattle.machine.proofs.TestLemmas.{tests-less}
use Rattle.legal.proofs.SoundLemmas.{IsFit, IsSound}
use Rattle.page_lists.proofs.HeldLemmas.{at-set}
use Rattle.page_lists.proofs.HandedLemmas.{held-handed, generations-handed}
use Rattle.counts.proofs.CountLemmas.{total-alike}

-- whatever answers a removal, the group is removed
pub removal : (old new : State) (g : GroupId) (answer : Reply) → Step old (event.Rmdir g) answer new → Removes old g.0 new
removal old new g reply.Ok h = h
removal old new g answer h = absurd h

-- ---- groups that are not there

-- what is above a live group is live
module _ (tree : List Node) (falls : IsTree tree) (above : (g p : ℕ) → is_live tree g ≡ true → (node_at tree g).parent ≡ Some p → is_live tree p ≡ true) where
  by_parent : (n a g : ℕ) → g < suc n → is_live tree g ≡ true → ((p : ℕ) → p < n → is_live tree p ≡ true → under tree a p ≡ true → is_live tree a ≡ true)
      → (parent : Option ℕ) → (node_at tree g).parent ≡ parent → under_at tree a parent ≡ true → is_live tree a ≡ true
  by_parent n a g less live rest None hangs is = unlike (under_at tree a None) is (under_at-None tree falls a)
  by_parent n a g less live rest (Some p) hangs is = let fell = falls.falls g p hangs in rest p (omega (arith, less, fell)) (above g p live hangs) is

  by_own : (n a g : ℕ) → g < suc n → is_live tree g ≡ true → ((p : ℕ) → p < n → is_live tree p ≡ true → under tree a p ≡ true → is_live tree a ≡ true)
      → (b : Bool) → (a == g) ≡ b → (b || under_at tree a (node_at tree g).parent) ≡ true → is_live tree a ≡ true
  by_own n a g less live rest true same is = ap (is_live tree) (eqb-true a g same) ∙ live
  by_own n a g less live rest false other is = by_parent n a g less live rest (node_at tree g).parent refl is

  pub live-above : (n a g : ℕ) → g < n → is_live tree g ≡ true → under tree a g ≡ true → is_live tree a ≡ true
  live-above zero a g less live is = absurd (omega (arith, less))
  live-above (suc n) a g less live is =
      by_own n a g less live (live-above n a) (a == g) refl (ap (λ (b : Bool). b) (sym (under_at-step tree falls a g)) ∙ is)

-- so a group that is not live has no page, nor has any group below it
pub usage-nobody : (swap : ℕ) (files : List ℕ) (s : State) (g : ℕ) → IsSound swap files s.pages s.tasks s.tree → is_live s.tree g ≡ false → usage s g ≡ 0
usage-nobody swap files s g sound dead = count_there-none (is_charged s.tree g) s.pages (λ p. by_slot (page_at s.pages p) (sound.fits p))
  where
    by_slot : (slot : Option Page) → IfSome slot (IsFit swap files s.tree) → there_and (is_charged s.tree g) slot ≡ false
    by_slot None fit = refl
    by_slot (Some page) fit = by_test (has_frame page && under s.tree g page.group) refl
      where
        by_test : (b : Bool) → (has_frame page && under s.tree g page.group) ≡ b → (has_frame page && under s.tree g page.group) ≡ false
        by_test false is = is
        by_test true is =
            let below = (and_parts (has_frame page) (under s.tree g page.group) is).1 in
            unlike (is_live s.tree g) (live-above s.tree sound.falls sound.above (suc page.group) g page.group (omega arith) fit.live below) dead

-- ---- counts

module _ (old new : State) (g : ℕ) (removes : Removes old g new) where
  -- as many pages as before pass a test that does not ask for their group
  count-removed : (test : Page → Bool) → ((page : Page) → test (regrouped old.opening.placement g removes.parent page) ≡ test page) → count_there test new.pages ≡ count_there test old.pages
  count-removed = count-regrouped old.opening.placement g removes.parent old.pages new.pages removes.pages

  -- as many transfers are in flight
  pub in_transfer-removed : in_transfer new.pages ≡ in_transfer old.pages
  in_transfer-removed = count-removed is_in_transfer (λ page. refl)

  -- of each key as much was counted at or under each group
  pub total-removed : (a : ℕ) (key : Key) → total new.tree new.counted a key ≡ total old.tree old.counted a key
  total-removed a key =
      ap (λ (s : State). total s.tree s.counted a key) removes.state
      ∙ total-alike (without_group old.tree g) old.tree old.counted a key (length-set old.tree g _) (λ h lt. without-under old.tree g a (Some h))

  module _ (falls : IsTree old.tree) where
    -- what is charged to the removed group now was so before
    own-before : (slot : Option Page) → (now : Option Page) → now ≡ option_map (regrouped old.opening.placement g removes.parent) slot → there_and (is_charged (without_group old.tree g) g) now ≡ true → there_and (is_charged old.tree g) slot ≡ true
    own-before None now e is = ap (there_and (is_charged (without_group old.tree g) g)) (sym e) ∙ is
    own-before (Some page) now e is = by_group (page.group == g) refl
      where
        both : (has_frame page ≡ true) × (under (without_group old.tree g) g (cond (page.group == g) (heir old.opening.placement removes.parent page.residence) page.group) ≡ true)
        both = and_parts (has_frame page) (under (without_group old.tree g) g (cond (page.group == g) (heir old.opening.placement removes.parent page.residence) page.group)) (ap (there_and (is_charged (without_group old.tree g) g)) (sym e) ∙ is)

        by_group : (b : Bool) → (page.group == g) ≡ b → (has_frame page && under old.tree g page.group) ≡ true
        by_group true same =
            ap (λ (b : Bool). b && under old.tree g page.group) both.0
            ∙ under_at-step old.tree falls g page.group ∙ ap (λ (b : Bool). b || under_at old.tree g (node_at old.tree page.group).parent) (eq-eqb g page.group (sym (eqb-true page.group g same)))
        by_group false other =
            ap (λ (b : Bool). b && under old.tree g page.group) both.0
            ∙ sym (without-under old.tree g g (Some page.group)) ∙ ap (λ (b : Bool). under (without_group old.tree g) g (cond b (heir old.opening.placement removes.parent page.residence) page.group)) (sym other) ∙ both.1

    -- no group's count rises
    pub usage-no_more : (a : ℕ) → usage new a ≤ usage old a
    usage-no_more a =
        elim (eq_cases a g) [
          | inl same ↦ subst (λ (i : ℕ). usage new i ≤ usage old i) (sym same) own
          | inr other ↦ (let e = usage-removed old new g falls removes a other in omega (arith, e))
        ]
      where
        own : usage new g ≤ usage old g
        own =
            let tree : usage new g ≡ charged (without_group old.tree g) new.pages g = ap (λ (s : State). charged s.tree new.pages g) removes.state in
            let less = tests-less (is_charged old.tree g) (is_charged (without_group old.tree g) g) old.pages new.pages (λ n. own-before (page_at old.pages n) (page_at new.pages n) (removes.pages n)) in
            omega (arith, tree, less)

-- ---- lists

-- the generations of both types have the same numbers
abbrev pub SameNumbers : Gens → Gens → Type 0
SameNumbers gens gens' = (gens'.max_seq ≡ gens.max_seq) × ((kind : Kind) → (row_of kind gens').min_seq ≡ (row_of kind gens).min_seq)

numbers-emptied : (gens : Gens) → SameNumbers gens (emptied gens)
numbers-emptied gens = (refl, by_kind)
  where
    by_kind : (kind : Kind) → (row_of kind (emptied gens)).min_seq ≡ (row_of kind gens).min_seq
    by_kind Anon = refl
    by_kind File = refl

numbers-taken : (from to : Gens) → SameNumbers to (taken_over from to)
numbers-taken from to = (refl, by_kind)
  where
    by_kind : (kind : Kind) → (row_of kind (taken_over from to)).min_seq ≡ (row_of kind to).min_seq
    by_kind Anon = refl
    by_kind File = refl

-- no generation begins or ends where pages go over
pub numbers-handed : (groups : List Gens) (g parent h : ℕ) → SameNumbers (gens_at groups h) (gens_at (handed_over g parent groups) h)
numbers-handed groups g parent h =
    let taken : Gens = taken_over (gens_at groups g) (gens_at groups parent) in
    at-set (SameNumbers (gens_at groups h)) (with_gens groups parent taken) g h (emptied (gens_at groups g)) (λ same. subst (λ (i : ℕ). SameNumbers (gens_at groups i) (emptied (gens_at groups g))) same (numbers-emptied (gens_at groups g)))
    (at-set (SameNumbers (gens_at groups h)) groups parent h taken (λ same. subst (λ (i : ℕ). SameNumbers (gens_at groups i) taken) same (numbers-taken (gens_at groups g) (gens_at groups parent))) (refl, λ kind. refl))

-- as many groups have lists as before
pub length-handed : (groups : List Gens) (g parent : ℕ) → length (handed_over g parent groups) ≡ length groups
length-handed groups g parent =
    let taken : Gens = taken_over (gens_at groups g) (gens_at groups parent) in length-set (with_gens groups parent taken) g (emptied (gens_at groups g)) ∙ length-set groups parent taken

-- the lists stay right where there are lists for each group
module _ (old new : State) (g : ℕ) (removes : Removes old g new) (falls : IsTree new.tree) (held : HeldLists) (groups : length held.groups ≡ length old.tree) where
  lower : removes.parent < g
  lower = falls.falls g removes.parent (ap (λ (s : State). (node_at s.tree g).parent) removes.state ∙ without-parent old.tree g g ∙ removes.below)

  here : g < length held.groups
  here =
      subst (λ (n : ℕ). g < n) (sym groups)
      (elim (cases_lt g (length old.tree)) [
        | inl lt ↦ lt
        | inr beyond ↦ (let none = ap (λ (n : Node). n.parent) (get_or-eq_default old.tree no_node beyond) in never_some (node_at old.tree g).parent none removes.below)
      ])

  there : removes.parent < length held.groups
  there = let low = lower in let at = here in omega (arith, low, at)

  apart : removes.parent ≢ g
  apart same = let low = lower in omega (arith, low, same)

  abbrev pub handed : HeldLists
  handed = record { groups = handed_over g removes.parent held.groups; marks = held.marks; hits = held.hits }

  pub held-removed : ListsHeld old.pages held → ListsHeld new.pages handed
  held-removed were = held-handed old.opening.placement old.pages new.pages held g removes.parent apart here there were removes.pages

  pub generations-removed : ListsHeld old.pages held → AreGenerations held → AreGenerations handed
  generations-removed were = generations-handed old.opening.placement old.pages new.pages held g removes.parent apart here there were removes.pages
