-- What one call leaves of the lists of held pages and of the order in which they leave.
use Rattle.std.proofs.Common.{◌≡◌, inl, inr, ℕ, ◌+◌, ◌-◌, ◌<◌, ◌≤◌, ◌==◌, ◌&&◌, ◌||◌, not, Bool, true, false, List, [], ◌∷◌, ◌++◌, length, Option, Some, None, eqb-true, arith, refl, sym, ap, ◌∙◌, subst, length-append, length-set}
use Rattle.std.specs.Prelude.{◌⊎◌, MatchBool, if◌then◌else◌, slice_set}
use Rattle.std.specs.List.{AllByRecursion, list_any}
use Rattle.std.proofs.lemmas.Bool.{and_parts, true≢false}
use Rattle.std.proofs.lemmas.Bool.Decides.{nat_tests}
use Rattle.std.proofs.lemmas.List.{length-replicate, get_or-set_same}
use Rattle.machine.specs.declared.id.GroupId.{GroupId}
use Rattle.machine.specs.declared.entry.Entry.{Entry}
use Rattle.machine.specs.declared.config.Placement.{Placement}
use Rattle.machine.specs.declared.event.Goal.{Goal}
use Rattle.machine.specs.declared.event.Goal.TheVariants.{Amount}
use Rattle.machine.specs.declared.event.Event.{Event}
use Rattle.machine.specs.declared.event.Event.TheVariants as event
use Rattle.machine.specs.declared.refusal.Refusal.{Refusal}
use Rattle.machine.specs.declared.refusal.Refusal.TheVariants.{Stranger, TraceFull}
use Rattle.machine.specs.declared.reply.Reply.{Reply}
use Rattle.machine.specs.declared.reply.Reply.TheVariants as reply
use Rattle.machine.specs.Slots.{there_and}
use Rattle.machine.specs.Tree.{Node, node_at, under}
use Rattle.machine.specs.Pages.{Page, Pages, page_at, is_anon, is_held, is_held_in, in_transfer}
use Rattle.machine.specs.State.{Opening, State, page_numbers, usage, first_state, is_swap_free}
use Rattle.machine.specs.Reclaim.{target_of, goal_of, goal_in}
use Rattle.machine.specs.Generations.{Gens, new_gens, of_kind, row_of, gens_at}
use Rattle.machine.specs.Aging.{is_marked, has_mark}
use Rattle.machine.specs.Eviction.{old_pages}
use Rattle.machine.specs.Order.{Cursor, no_cursor, cursor_at, in_turn, heeds_age, takes_parts, round_unit, new_turn, cursor_after}
use Rattle.machine.specs.Lists.{HeldLists, Order, hits_at, kind_at, is_last_hit, is_marking, gives, gives_old, Orders, first_order, cursor_served, PicksOf, is_held_of, ListsHeld, AreGenerations, Generation, Youngest, generation_for, GoesOn, is_in_bits, MergesMarks, with_group, TakesNext, AddsLists, RemovesLists, Keeps}
use Rattle.machine.specs.Refusals.{refusal}
use Rattle.machine.specs.Call.{Past, Caller, Answers, Refuses, Answered, JudgedBy, Called, knows_pass, is_trace_full}
use Rattle.machine.specs.Step.{new_node, Removes, Step}
use Rattle.machine.specs.Legal.{Legal}
use Rattle.machine.proofs.Values.{some_inj, unlike}
use Rattle.machine.proofs.TreeLemmas.{eq_cases}
use Rattle.page_lists.proofs.CursorLemmas.{cursors-push, cursors-set}
use Rattle.legal.proofs.Did.{is_rmdir, changes_groups}
use Rattle.legal.proofs.OpeningLemmas.{tree_after, step_opening, step_tree}
use Rattle.page_lists.proofs.HeldLemmas.{held-go_on, gens_at-more, held-group, generations-group, goes_length, goes-max, goes-min, generations-go_on, first-held, first-generations}
use Rattle.legal.proofs.StepLemmas.{step-places, mkdir-pages, legal-lists}
use Rattle.legal.proofs.RemovedCounts.{live-above, removal, SameNumbers, numbers-handed, length-handed, handed, held-removed, generations-removed}
use Rattle.legal.proofs.OrdersLemmas.{orders_alike}
use Rattle.legal.proofs.ServedLemmas.{served-has_old}
use Rattle.legal.proofs.SoundLemmas.{live-below, legal-sound, legal-fit}
use Rattle.eviction.proofs.SoundLemmas.{picked-length, picked-generations, picked-size, picked-held, picked-of, picked-marked, picked-unmarked}
use Rattle.machine.specs.Events.{took_for}
use Rattle.laws.specs.Laws.{TakesUnprotected, ListsGoOn, HeldPagesGoOn, KeepNumbers, OnlyTakesAge, OnlyMergesMark, ChangesMarksAlone, MergesChangeMarksAlone, LeavesInOrder, OrdersAreSettled}
use Rattle.page_lists.proofs.MergeLemmas.{held-merged, generations-merged}
use Rattle.legal.proofs.TransferLemmas.{legal-room}
use Rattle.laws.proofs.LawLemmas.{by_test}
use Rattle.laws.proofs.ReclaimLemmas.{reclaims_spare_the_protected}

-- ---- one call

served_or : {P : Type 0} (old new : Past) (caller : Caller) (what : Event) (answer : Reply) → (new ≡ old → P) → (Answers old caller what answer new → P) → Answered old caller what answer new → P
served_or old new caller what (reply.Refused why) same answers h = same h.2
served_or old new caller what answer same answers h = answers h

pub called_or : {P : Type 0} (old new : Past) (caller : Caller) (what : Event) (answer : Reply) → (new ≡ old → P) → (Answers old caller what answer new → P) → Called old caller what answer new → P
called_or {P} old new caller what answer same answers called = by_test (knows_pass old.state old.history caller what) (by_cause (refusal old.state what)) (λ h. same h.1) called
  where
    by_cause : (cause : Option Refusal) → JudgedBy old caller what cause answer new → P
    by_cause (Some why) h = same h.1
    by_cause None h = by_test (is_trace_full old what) (λ k. same k.1) (served_or old new caller what answer same answers) h

abbrev pub is_refusal : Reply → Bool
is_refusal (reply.Refused why) = true
is_refusal answer = false

-- what is not refused is a step
module _ (old new : Past) (caller : Caller) (what : Event) (answer : Reply) (served : is_refusal answer ≡ false) where
  not_refused : {P : Type 0} (why : Refusal) → answer ≡ reply.Refused why → P
  not_refused why e = unlike (is_refusal answer) (ap is_refusal e) served

  served_answers : (said : Reply) → answer ≡ said → Answered old caller what said new → Answers old caller what said new
  served_answers (reply.Refused why) e h = not_refused why e
  served_answers said e h = h

  pub called_answers : Called old caller what answer new → Answers old caller what answer new
  called_answers called = by_test (knows_pass old.state old.history caller what) (by_cause (refusal old.state what)) (λ h. not_refused Stranger h.0) called
    where
      by_cause : (cause : Option Refusal) → JudgedBy old caller what cause answer new → Answers old caller what answer new
      by_cause (Some why) h = not_refused why h.0
      by_cause None h = by_test (is_trace_full old what) (λ k. not_refused TraceFull k.0) (served_answers answer refl) h

-- how the order goes on, by whether a page is taken, a group is made, one is removed, marks are merged, or none of these
pub orders_or : {P : Type 0} (old new : State) (order order' : Order) (what : Event) (answer : Reply)
    → ((goal : Goal) (target : ℕ) → took_for what answer ≡ Some target → changes_groups what ≡ false → TakesNext old order goal target new order' → P)
    → ((path : List ℕ) → what ≡ event.Mkdir path → AddsLists order order' → P)
    → ((g : GroupId) → what ≡ event.Rmdir g → RemovesLists (node_at old.tree g.0).parent g.0 order order' → P)
    → ((word bits : ℕ) → what ≡ event.MergeMarks word bits → MergesMarks old.opening.placement old.pages word bits order.held order'.held × (order'.cursors ≡ order.cursors) → P)
    → (changes_groups what ≡ false → Keeps old order what answer new order' → P)
    → Orders old order what answer new order' → P
orders_or old new order order' (event.Relieve cause) (reply.Out ticket) takes adds removes merges keeps h = takes (goal_of cause) (target_of cause) refl refl h
orders_or old new order order' (event.Relieve cause) reply.Dropped takes adds removes merges keeps h = takes (goal_of cause) (target_of cause) refl refl h
orders_or old new order order' (event.ReclaimOne g) (reply.Out ticket) takes adds removes merges keeps h = takes Amount g.0 refl refl h
orders_or old new order order' (event.ReclaimOne g) reply.Dropped takes adds removes merges keeps h = takes Amount g.0 refl refl h
orders_or old new order order' (event.Mkdir path) answer takes adds removes merges keeps h = adds path refl h
orders_or old new order order' (event.Rmdir g) answer takes adds removes merges keeps h = removes g refl h
orders_or old new order order' (event.MergeMarks word bits) answer takes adds removes merges keeps h = merges word bits refl h
orders_or old new order order' what answer takes adds removes merges keeps h = keeps refl h

-- an event that leaves the groups leaves the tree, and removes none
same-groups : (old : State) (what : Event) → changes_groups what ≡ false → (tree_after old what ≡ old.tree) × (is_rmdir what ≡ false)
same-groups old (event.Mkdir path) e = cc
same-groups old (event.Rmdir g) e = cc
same-groups old what e = (refl, refl)

-- lists that go over to a parent's, whose number is known
lists-removed : (parent : Option ℕ) (above g : ℕ) (order order' : Order) → parent ≡ Some above → RemovesLists parent g order order' → RemovesLists (Some above) g order order'
lists-removed parent above g order order' e h = subst (λ (o : Option ℕ). RemovesLists o g order order') e h

-- no mark changes then
removes-marks : (parent : Option ℕ) (g : ℕ) (order order' : Order) → RemovesLists parent g order order' → order'.held.marks ≡ order.held.marks
removes-marks None g order order' h = absurd h
removes-marks (Some parent) g order order' h = ap (λ (o : Order). o.held.marks) h

removes-numbers : (parent : Option ℕ) (g : ℕ) (order order' : Order) → RemovesLists parent g order order' → KeepNumbers order.held order'.held
removes-numbers None g order order' h = absurd h
removes-numbers (Some parent) g order order' h = λ a. subst (λ (o : Order). SameNumbers (gens_at order.held.groups a) (gens_at o.held.groups a)) (sym h) (numbers-handed order.held.groups g parent a)

-- ---- the order stays right

-- the lists are those of the pages that are held, and sound; and each group has lists, and a cursor
pub record IsInOrder (s : State) (order : Order) : Type 0 where
  pub listed : ListsHeld s.pages order.held
  pub sound : AreGenerations order.held
  pub groups : length order.held.groups ≡ length s.tree
  pub marks : length order.held.marks ≡ page_numbers s.opening
  pub cursors : length order.cursors ≡ length s.tree

abbrev pub IsOrdered : Past → Type 0
IsOrdered past = IsInOrder past.state past.order

-- so it is at the opening
pub ordered-first : (opening : Opening) → IsInOrder (first_state opening) (first_order opening)
ordered-first opening = record {
  listed = first-held opening;
  sound = first-generations opening;
  groups = refl;
  marks = length-replicate (page_numbers opening) false;
  cursors = refl;
}

-- a merge that is answered leaves the state
merge-same : (old new : State) (word bits : ℕ) (answer : Reply) → Step old (event.MergeMarks word bits) answer new → new ≡ old
merge-same old new word bits reply.Ok step = step
merge-same old new word bits answer step = absurd step

module _ (opening : Opening) (history : List Entry) (old new : State) (order order' : Order) (what : Event) (answer : Reply) (legal : Legal opening history new) (step : Step old what answer new) where
  -- from lists that are right, those that go on are
  goes-ordered : (generation : Generation) (held : HeldLists) → changes_groups what ≡ false → GoesOn generation old.pages held new.pages order'.held → ListsHeld old.pages held → AreGenerations held
      → length held.groups ≡ length old.tree → length held.marks ≡ page_numbers old.opening → length order'.cursors ≡ length old.tree → IsInOrder new order'
  goes-ordered generation held same goes were sound groups marks cursors =
      let groups_stay = same-groups old what same in
      let tree : length new.tree ≡ length old.tree = ap (λ (tree : List Node). length tree) (step_tree old what answer new step ∙ groups_stay.0) in
      record {
        listed = held-go_on generation old.pages new.pages held order'.held goes were (step-places old what answer new groups_stay.1 step) (legal-lists opening history new held legal (groups ∙ sym tree));
        sound = generations-go_on generation old.pages new.pages held order'.held goes were sound;
        groups = goes_length generation old.pages new.pages held order'.held goes ∙ groups ∙ sym tree;
        marks = goes.size ∙ marks ∙ sym (ap (λ (o : Opening). page_numbers o) (step_opening old what answer new step));
        cursors = cursors ∙ sym tree;
      }

  ordered-takes : (goal : Goal) (target : ℕ) → changes_groups what ≡ false → TakesNext old order goal target new order' → IsInOrder old order → IsInOrder new order'
  ordered-takes goal target same h was =
      let swap : Bool = is_swap_free old in
      goes-ordered Youngest h.looked same h.leaves (picked-held swap order.held h.g (Some h.p) h.looked h.picked old.pages was.sound was.listed)
      (picked-generations swap order.held h.g (Some h.p) h.looked h.picked was.sound) (picked-length swap order.held h.g (Some h.p) h.looked h.picked ∙ was.groups)
      (picked-size swap order.held h.g (Some h.p) h.looked h.picked was.sound ∙ was.marks) (cursors-set order.cursors order'.cursors target _ h.moves ∙ was.cursors)

  ordered-keeps : changes_groups what ≡ false → Keeps old order what answer new order' → IsInOrder old order → IsInOrder new order'
  ordered-keeps same h was =
      goes-ordered (generation_for old.opening.placement what) order.held same h.0 was.listed was.sound was.groups was.marks (ap (λ (xs : List Cursor). length xs) h.1 ∙ was.cursors)

  ordered-merges : (word bits : ℕ) → what ≡ event.MergeMarks word bits → MergesMarks old.opening.placement old.pages word bits order.held order'.held × (order'.cursors ≡ order.cursors) → IsInOrder old order → IsInOrder new order'
  ordered-merges word bits e h was =
      subst (λ (s : State). IsInOrder s order') (sym (merge-same old new word bits answer (subst (λ (w : Event). Step old w answer new) e step)))
      (record {
        listed = held-merged old.opening.placement old.pages word bits order.held order'.held h.0 was.listed;
        sound = generations-merged old.opening.placement old.pages word bits order.held order'.held h.0 was.sound;
        groups = ap (λ (xs : List Gens). length xs) h.0.groups ∙ was.groups;
        marks = h.0.size ∙ was.marks;
        cursors = ap (λ (xs : List Cursor). length xs) h.1 ∙ was.cursors;
      })

  ordered-adds : (path : List ℕ) → what ≡ event.Mkdir path → AddsLists order order' → IsInOrder old order → IsInOrder new order'
  ordered-adds path e h was =
      let node : Node = new_node old.tree path in
      let pages : new.pages ≡ old.pages = mkdir-pages old new path answer (subst (λ (w : Event). Step old w answer new) e step) in
      let tree : new.tree ≡ old.tree ++ node ∷ [] = step_tree old what answer new step ∙ ap (tree_after old) e in
      let longer : length new.tree ≡ length (old.tree ++ node ∷ []) = ap (λ (tree : List Node). length tree) tree in
      subst (λ (o : Order). IsInOrder new o) (sym h) (record {
        listed = subst (λ (ps : Pages). ListsHeld ps (with_group order.held)) (sym pages) (held-group old.pages order.held was.listed);
        sound = generations-group order.held was.sound;
        groups = length-append order.held.groups (new_gens ∷ []) ∙ ap (λ n. n + 1) was.groups ∙ sym (length-append old.tree (node ∷ [])) ∙ sym longer;
        marks = was.marks ∙ sym (ap (λ (o : Opening). page_numbers o) (step_opening old what answer new step));
        cursors = cursors-push old.tree node order.cursors (order.cursors ++ no_cursor ∷ []) was.cursors refl ∙ sym longer;
      })

  ordered-removes : (g : GroupId) → what ≡ event.Rmdir g → RemovesLists (node_at old.tree g.0).parent g.0 order order' → IsInOrder old order → IsInOrder new order'
  ordered-removes g e h was =
      let removes : Removes old g.0 new = removal old new g answer (subst (λ (w : Event). Step old w answer new) e step) in
      let falls = (legal-sound opening history new legal).1.falls in
      let after : HeldLists = handed old new g.0 removes falls order.held was.groups in
      let is : order' ≡ (let o : Order = record { held = after; cursors = slice_set order.cursors g.0 no_cursor } in o) = lists-removed (node_at old.tree g.0).parent removes.parent g.0 order order' removes.below h in
      let tree : length new.tree ≡ length old.tree = ap (λ (s : State). length s.tree) removes.state ∙ length-set old.tree g.0 (record (node_at old.tree g.0) { live = false }) in
      subst (λ (o : Order). IsInOrder new o) (sym is) (record {
        listed = held-removed old new g.0 removes falls order.held was.groups was.listed;
        sound = generations-removed old new g.0 removes falls order.held was.groups was.listed was.sound;
        groups = length-handed order.held.groups g.0 removes.parent ∙ was.groups ∙ sym tree;
        marks = was.marks ∙ sym (ap (λ (o : Opening). page_numbers o) (step_opening old what answer new step));
        cursors = length-set order.cursors g.0 no_cursor ∙ was.cursors ∙ sym tree;
      })

  ordered-step : Orders old order what answer new order' → IsInOrder old order → IsInOrder new order'
  ordered-step orders was =
      orders_or old new order order' what answer (λ goal target took same h. ordered-takes goal target same h was) (λ path e h. ordered-adds path e h was) (λ g e h. ordered-removes g e h was) (λ word bits e h. ordered-merges word bits e h was) (λ same h. ordered-keeps same h was) orders

pub ordered-called : (opening : Opening) (old new : Past) (caller : Caller) (what : Event) (answer : Reply) → Legal opening new.history new.state → Called old caller what answer new → IsOrdered old → IsOrdered new
ordered-called opening old new caller what answer legal called was =
    called_or old new caller what answer (λ same. subst IsOrdered (sym same) was)
    (λ h. ordered-step opening new.history old.state new.state old.order new.order what answer legal h.steps h.order was) called

-- ---- calls that take no page

lists_go : (old new : Past) (what : Event) (answer : Reply) → took_for what answer ≡ None → Orders old.state old.order what answer new.state new.order → ListsGoOn old what answer new
lists_go old new (event.Relieve cause) (reply.Out ticket) none h = cc
lists_go old new (event.Relieve cause) reply.Dropped none h = cc
lists_go old new (event.ReclaimOne g) (reply.Out ticket) none h = cc
lists_go old new (event.ReclaimOne g) reply.Dropped none h = cc
lists_go old new (event.Mkdir path) answer none h = ap (λ (o : Order). o.held) h
lists_go old new (event.Rmdir g) answer none h = h
lists_go old new (event.MergeMarks word bits) answer none h = h.0
lists_go old new what answer none h = h.0

pub held_pages_go_on : HeldPagesGoOn
held_pages_go_on old new caller what answer none called = called_or old new caller what answer (λ same. inl same) (λ h. inr (lists_go old new what answer none h.order)) called

-- the numbers of generations, over lists that go on
goes-numbers : (generation : Generation) (before after : Pages) (held held' : HeldLists) → GoesOn generation before held after held' → KeepNumbers held held'
goes-numbers generation before after held held' goes g = (goes-max generation before after held held' goes g, λ kind. goes-min generation before after held held' goes g kind)

keeps-numbers : (old new : Past) (what : Event) (answer : Reply) → ListsGoOn old what answer new → KeepNumbers old.order.held new.order.held
keeps-numbers old new (event.Mkdir path) answer h = λ g.
    let same : gens_at new.order.held.groups g ≡ gens_at old.order.held.groups g = ap (λ (held : HeldLists). gens_at held.groups g) h ∙ gens_at-more old.order.held.groups g in
    (ap (λ (x : Gens). x.max_seq) same, λ kind. ap (λ (x : Gens). (row_of kind x).min_seq) same)
keeps-numbers old new (event.Rmdir g) answer h = removes-numbers (node_at old.state.tree g.0).parent g.0 old.order new.order h
keeps-numbers old new (event.MergeMarks word bits) answer h = λ g. (ap (λ (xs : List Gens). (gens_at xs g).max_seq) h.groups, λ kind. ap (λ (xs : List Gens). (row_of kind (gens_at xs g)).min_seq) h.groups)
keeps-numbers old new what answer h = goes-numbers (generation_for old.state.opening.placement what) old.state.pages new.state.pages old.order.held new.order.held h

pub only_takes_age : OnlyTakesAge
only_takes_age old new caller what answer none called =
    called_or old new caller what answer (λ same. subst (λ (p : Past). KeepNumbers old.order.held p.order.held) (sym same) (λ g. (refl, λ kind. refl)))
    (λ h. keeps-numbers old new what answer (lists_go old new what answer none h.order)) called

-- ---- marks

-- a page that is marked after lists go on was marked before
goes-marked : (generation : Generation) (before after : Pages) (held held' : HeldLists) → GoesOn generation before held after held' → (p : ℕ) → is_marked held'.marks p ≡ true → is_marked held.marks p ≡ true
goes-marked generation before after held held' goes p m = (and_parts (is_held_in before p && is_held_in after p) (is_marked held.marks p) (sym (goes.marks p) ∙ m)).1

-- the merge names the page, and this hit is its last
abbrev pub is_named : State → HeldLists → ℕ → ℕ → ℕ → Bool
is_named s held word bits p = is_marking s.opening.placement (is_in_bits word bits) (hits_at held.hits p) (page_at s.pages p)

-- one that is marked after a merge was marked before, or the merge names it
merged-before : (s : State) (word bits : ℕ) (held held' : HeldLists) → MergesMarks s.opening.placement s.pages word bits held held' → (p : ℕ) → is_marked held'.marks p ≡ true → (is_marked held.marks p ≡ true) ⊎ (is_named s held word bits p ≡ true)
merged-before s word bits held held' h p m = by_mark (is_marked held.marks p) (is_named s held word bits p) refl refl (sym (h.marks p) ∙ m)
  where
    by_mark : (a b : Bool) → is_marked held.marks p ≡ a → is_named s held word bits p ≡ b → (is_marked held.marks p || is_named s held word bits p) ≡ true → (is_marked held.marks p ≡ true) ⊎ (is_named s held word bits p ≡ true)
    by_mark true b was named e = inl was
    by_mark false true was named e = inr named
    by_mark false false was named e = absurd (true≢false (sym e ∙ ap (λ (x : Bool). x || is_named s held word bits p) was ∙ named))

-- what is marked so is in the bits
pub named-in : (placement : Placement) (word bits hits : ℕ) (slot : Option Page) → is_marking placement (is_in_bits word bits) hits slot ≡ true → there_and (is_in_bits word bits) slot ≡ true
named-in placement word bits hits None named = named
named-in placement word bits hits (Some page) named = (and_parts (is_in_bits word bits page) (is_last_hit placement (kind_at page.content) hits) named).0

takes-marked : (old new : State) (order order' : Order) (goal : Goal) (target : ℕ) → TakesNext old order goal target new order' → (p : ℕ) → is_marked order'.held.marks p ≡ true → is_marked order.held.marks p ≡ true
takes-marked old new order order' goal target h p m = by_mark (is_marked order.held.marks p) refl
  where
    looked : is_marked h.looked.marks p ≡ true
    looked = goes-marked Youngest old.pages new.pages h.looked order'.held h.leaves p m

    by_mark : (b : Bool) → is_marked order.held.marks p ≡ b → b ≡ true
    by_mark true e = refl
    by_mark false e = absurd (true≢false (sym looked ∙ picked-unmarked (is_swap_free old) order.held h.g (Some h.p) h.looked h.picked p e))

-- of all calls a merge alone marks a page, and this hit is its last
pub only_last_hits : (old new : Past) (caller : Caller) (what : Event) (answer : Reply) → Called old caller what answer new → (p : ℕ) → is_marked new.order.held.marks p ≡ true
    → (is_marked old.order.held.marks p ≡ true) ⊎ ((word bits : ℕ) × (what ≡ event.MergeMarks word bits) × (is_named old.state old.order.held word bits p ≡ true))
only_last_hits old new caller what answer called p m =
    called_or old new caller what answer (λ same. inl (ap (λ (x : Past). is_marked x.order.held.marks p) (sym same) ∙ m))
    (λ h.
    orders_or old.state new.state old.order new.order what answer (λ goal target took same k. inl (takes-marked old.state new.state old.order new.order goal target k p m))
    (λ path e k. inl (ap (λ (x : Order). is_marked x.held.marks p) (sym k) ∙ m))
    (λ g e k. inl (ap (λ (marks : List Bool). is_marked marks p) (sym (removes-marks (node_at old.state.tree g.0).parent g.0 old.order new.order k)) ∙ m))
    (λ word bits e k.
    elim (merged-before old.state word bits old.order.held new.order.held k.0 p m) [
      | inl was ↦ inl was
      | inr named ↦ inr (word, bits, e, named)
    ])
    (λ same k. inl (goes-marked (generation_for old.state.opening.placement what) old.state.pages new.state.pages old.order.held new.order.held k.0 p m))
    h.order) called

pub only_merges_mark : OnlyMergesMark
only_merges_mark old new caller what answer called p m =
    elim (only_last_hits old new caller what answer called p m) [
      | inl was ↦ inl was
      | inr merge ↦ inr (merge.0, merge.1, merge.2, named-in old.state.opening.placement merge.0 merge.1 (hits_at old.order.held.hits p) (page_at old.state.pages p) merge.3)
    ]

pub merges_change_marks_alone : MergesChangeMarksAlone
merges_change_marks_alone old new caller word bits answer called =
    called_or old new caller (event.MergeMarks word bits) answer
    (λ same. subst (λ (p : Past). ChangesMarksAlone old p) (sym same) (record { state = refl; history = refl; passes = refl; lists = refl; cursors = refl; kept = λ p e. e }))
    (λ h.
    record {
      state = merge-same old.state new.state word bits answer h.steps;
      history = h.history;
      passes = h.passes;
      lists = h.order.0.groups;
      cursors = h.order.1;
      kept = λ p e. h.order.0.marks p ∙ ap (λ (b : Bool). b || is_named old.state old.order.held word bits p) e;
    }) called

-- a merge needs no room but that which each legal past has
pub merge_served : (opening : Opening) (old new : Past) (caller : Caller) (word bits : ℕ) (answer : Reply) → Legal opening old.history old.state → Called old caller (event.MergeMarks word bits) answer new → Answers old caller (event.MergeMarks word bits) answer new
merge_served opening old new caller word bits answer legal called = by_room (is_trace_full old (event.MergeMarks word bits)) refl answer called
  where
    not_full : is_trace_full old (event.MergeMarks word bits) ≡ true → ⊥
    not_full full = let room = legal-room opening old.history old.state legal in let wanted : length old.history + in_transfer old.state.pages + 0 ≤ old.state.opening.trace_limit = omega (arith, room) in true≢false (sym full ∙ grind (arith, nat_tests, wanted))

    by_room : (full : Bool) → is_trace_full old (event.MergeMarks word bits) ≡ full → (said : Reply) → MatchBool full (Refuses old TraceFull said new) (Answered old caller (event.MergeMarks word bits) said new) → Answers old caller (event.MergeMarks word bits) said new
    by_room true is said h = absurd (not_full is)
    by_room false is (reply.Refused why) h = cc
    by_room false is said h = h

pub merge_says : (old new : State) (word bits : ℕ) (answer : Reply) → Step old (event.MergeMarks word bits) answer new → answer ≡ reply.Ok
merge_says old new word bits reply.Ok step = refl
merge_says old new word bits answer step = absurd step

-- ---- the page that is taken

-- no refusal takes one
took_served : (what : Event) (answer : Reply) (target : ℕ) → took_for what answer ≡ Some target → is_refusal answer ≡ false
took_served (event.Relieve cause) (reply.Refused why) target e = cc
took_served (event.ReclaimOne g) (reply.Refused why) target e = cc
took_served what (reply.Refused why) target e = cc
took_served what answer target e = refl

takes_next : (old new : State) (order order' : Order) (what : Event) (answer : Reply) (target : ℕ) → took_for what answer ≡ Some target → Orders old order what answer new order' → TakesNext old order (goal_in what) target new order'
takes_next old new order order' (event.Relieve why) (reply.Out ticket) target e h = subst (λ t. TakesNext old order (goal_of why) t new order') (some_inj e) h
takes_next old new order order' (event.Relieve why) reply.Dropped target e h = subst (λ t. TakesNext old order (goal_of why) t new order') (some_inj e) h
takes_next old new order order' (event.ReclaimOne g) (reply.Out ticket) target e h = subst (λ t. TakesNext old order Amount t new order') (some_inj e) h
takes_next old new order order' (event.ReclaimOne g) reply.Dropped target e h = subst (λ t. TakesNext old order Amount t new order') (some_inj e) h
takes_next old new order order' what answer target e h = cc

-- once a group has given a page, the cursor names it
names_giver : (parts : Bool) (tree : List Node) (gives : ℕ → Bool) (size : ℕ → ℕ) (target : ℕ) (cursor : Cursor) (g : ℕ) → (cursor_after parts tree gives size target cursor g).group ≡ Some g
names_giver false tree gives size target cursor g = refl
names_giver true tree gives size target cursor g = by_turn (list_any (λ a. a == g) (in_turn true tree target cursor))
  where
    by_turn : (goes_on : Bool) → (let c : Cursor = if goes_on then record { group = Some g; left = cursor.left - 1; unit = cursor.unit } else new_turn g (size g) (round_unit tree gives size target cursor g) in c.group) ≡ Some g
    by_turn true = refl
    by_turn false = refl

-- a target that a page of a live group is taken for has a number
target_below : (opening : Opening) (history : List Entry) (s : State) → Legal opening history s → (target p : ℕ) (page : Page) → page_at s.pages p ≡ Some page → under s.tree target page.group ≡ true → target < length s.tree
target_below opening history s legal target p page there below =
    let sound = (legal-sound opening history s legal).1 in
    live-below s.tree target (live-above s.tree sound.falls sound.above (page.group + 1) target page.group (omega arith) (legal-fit opening history s legal p page there).live below)

leaves_in_order : (opening : Opening) (old new : Past) (goal : Goal) (target : ℕ) → Legal opening old.history old.state → IsOrdered old → TakesUnprotected old.state target new.state
    → TakesNext old.state old.order goal target new.state new.order → LeavesInOrder old goal target new
leaves_in_order opening old new goal target legal was taken next = record {
  taken = taken;
  turn = next.next ∙ ap (λ (g : ℕ). Some g) group;
  looked = next.looked;
  picked =
      subst (λ (g : ℕ). PicksOf (is_swap_free old.state) old.order.held g (Some taken.p) next.looked) group
      (subst (λ (q : ℕ). PicksOf (is_swap_free old.state) old.order.held next.g (Some q) next.looked) same next.picked);
  leaves = next.leaves;
  cursor = cursor;
  named =
      ap (λ (cs : List Cursor). (cursor_at cs target).group) cursor
      ∙ ap (λ (c : Cursor). c.group) (get_or-set_same old.order.cursors target to no_cursor (subst (λ n. target < n) (sym was.cursors) (target_below opening old.history old.state legal target taken.p taken.page taken.there taken.below)))
      ∙ names_giver (takes_parts old.state.opening.placement goal) old.state.tree (gives old.state target) (usage old.state) target (cursor_at old.order.cursors target) taken.page.group;
}
  where
    to : Cursor
    to = cursor_served old.state old.order goal target taken.page.group

    same : next.p ≡ taken.p
    same =
        elim (eq_cases next.p taken.p) [
          | inl e ↦ e
          | inr differs ↦ unlike (is_held_in old.state.pages next.p) next.was (ap (there_and is_held) (sym (taken.others next.p differs)) ∙ next.taken)
        ]

    -- the page is of the group that was served, since it is on its lists
    group : next.g ≡ taken.page.group
    group =
        let found = picked-of (is_swap_free old.state) old.order.held next.g next.p next.looked next.picked was.sound old.state.pages was.listed in
        let here : there_and (is_held_of next.g found.0) (Some taken.page) ≡ true = ap (there_and (is_held_of next.g found.0)) (sym taken.there ∙ ap (page_at old.state.pages) (sym same)) ∙ found.1 in
        let of_kinds : Bool = of_kind found.0 (is_anon taken.page.content) (not (is_anon taken.page.content)) in
        let both = and_parts (is_held taken.page) ((taken.page.group == next.g) && of_kinds) here in
        sym (eqb-true taken.page.group next.g (and_parts (taken.page.group == next.g) of_kinds both.1).0)

    cursor : new.order.cursors ≡ slice_set old.order.cursors target to
    cursor = next.moves ∙ ap (λ (g : ℕ). slice_set old.order.cursors target (cursor_served old.state old.order goal target g)) group

-- a page that is held no more is the one that was taken
the_taken : (old new : Past) (goal : Goal) (target : ℕ) (h : LeavesInOrder old goal target new) (p : ℕ) (page : Page) → page_at old.state.pages p ≡ Some page → is_held page ≡ true
    → there_and is_held (page_at new.state.pages p) ≡ false → (p ≡ h.taken.p) × (page ≡ h.taken.page)
the_taken old new goal target h p page there held gone =
    let same : p ≡ h.taken.p =
    elim (eq_cases p h.taken.p) [
      | inl e ↦ e
      | inr differs ↦ unlike (is_held_in old.state.pages p) (ap (there_and is_held) there ∙ held) (ap (there_and is_held) (sym (h.taken.others p differs)) ∙ gone)
    ] in
    (same, some_inj (sym there ∙ ap (page_at old.state.pages) same ∙ h.taken.there))

-- a marked page that is taken was of a group with no old page unmarked
marked_stays : (old new : Past) (goal : Goal) (target : ℕ) → IsOrdered old → LeavesInOrder old goal target new → (p : ℕ) (page : Page) → page_at old.state.pages p ≡ Some page → is_held page ≡ true
    → there_and is_held (page_at new.state.pages p) ≡ false → is_marked old.order.held.marks p ≡ true
    → AllByRecursion (λ l. has_mark old.order.held.marks l ≡ true) (old_pages (is_swap_free old.state) (gens_at old.order.held.groups page.group))
marked_stays old new goal target was h p page there held gone marked =
    let its = the_taken old new goal target h p page there held gone in
    subst (λ (x : Page). AllByRecursion (λ l. has_mark old.order.held.marks l ≡ true) (old_pages (is_swap_free old.state) (gens_at old.order.held.groups x.group))) (sym its.1)
    (picked-marked (is_swap_free old.state) old.order.held h.taken.page.group h.taken.p h.looked h.picked was.sound (ap (is_marked old.order.held.marks) (sym its.0) ∙ marked))

-- where age is heeded, and some group has an old page of a file to give, a page that is taken was of such a group
idle_stays : (opening : Opening) (old new : Past) (goal : Goal) (target : ℕ) → Legal opening old.history old.state → LeavesInOrder old goal target new → heeds_age opening.placement goal target ≡ true
    → (h : ℕ) → gives_old old.state old.order.held target h ≡ true → (p : ℕ) (page : Page) → page_at old.state.pages p ≡ Some page → is_held page ≡ true
    → there_and is_held (page_at new.state.pages p) ≡ false → gives_old old.state old.order.held target page.group ≡ true
idle_stays opening old new goal target legal leaves heeds h old_file p page there held gone =
    let its = the_taken old new goal target leaves p page there held gone in
    subst (λ (x : Page). gives_old old.state old.order.held target x.group ≡ true) (sym its.1)
    (served-has_old opening old.history old.state legal old.order goal target h leaves.taken.page.group heeds old_file leaves.turn)

module _ (opening : Opening) (old new : Past) (caller : Caller) (what : Event) (answer : Reply) (target : ℕ) (took : took_for what answer ≡ Some target) (called : Called old caller what answer new)
    (legal : Legal opening old.history old.state) (was : IsOrdered old) where
  pub called_leaves : LeavesInOrder old (goal_in what) target new
  called_leaves =
      let served = called_answers old new caller what answer (took_served what answer target took) called in
      leaves_in_order opening old new (goal_in what) target legal was (reclaims_spare_the_protected old.state new.state what answer target took served.steps)
      (takes_next old.state new.state old.order new.order what answer target took served.order)

  pub called_stays : (p : ℕ) (page : Page) → page_at old.state.pages p ≡ Some page → is_held page ≡ true → there_and is_held (page_at new.state.pages p) ≡ false
      → is_marked old.order.held.marks p ≡ true → AllByRecursion (λ l. has_mark old.order.held.marks l ≡ true) (old_pages (is_swap_free old.state) (gens_at old.order.held.groups page.group))
  called_stays = marked_stays old new (goal_in what) target was called_leaves

  pub called_idle : heeds_age opening.placement (goal_in what) target ≡ true → (h : ℕ) → gives_old old.state old.order.held target h ≡ true
      → (p : ℕ) (page : Page) → page_at old.state.pages p ≡ Some page → is_held page ≡ true → there_and is_held (page_at new.state.pages p) ≡ false
      → gives_old old.state old.order.held target page.group ≡ true
  called_idle = idle_stays opening old new (goal_in what) target legal called_leaves

-- ---- two calls

both_tests : (b : Bool) {A B A' B' P : Type 0} → (A → A' → P) → (B → B' → P) → MatchBool b A B → MatchBool b A' B' → P
both_tests true yes_both no_both h k = yes_both h k
both_tests false yes_both no_both h k = no_both h k

pub orders_are_settled : OrdersAreSettled
orders_are_settled old new new' caller what answer called called' same =
    both_tests (knows_pass old.state old.history caller what) (by_cause (refusal old.state what)) (λ h k. unchanged h.1 k.1) called called'
  where
    unchanged : new ≡ old → new' ≡ old → new.order ≡ new'.order
    unchanged h k = ap (λ (past : Past). past.order) h ∙ sym (ap (λ (past : Past). past.order) k)

    by_reply : (said : Reply) → Answered old caller what said new → Answered old caller what said new' → new.order ≡ new'.order
    by_reply (reply.Refused why) h k = unchanged h.2 k.2
    by_reply said h k =
        orders_alike old.state new.state old.order new.order new'.order what said h.order (subst (λ (s : State). Orders old.state old.order what said s new'.order) (sym same) k.order)

    by_cause : (cause : Option Refusal) → JudgedBy old caller what cause answer new → JudgedBy old caller what cause answer new' → new.order ≡ new'.order
    by_cause (Some why) h k = unchanged h.1 k.1
    by_cause None h k = both_tests (is_trace_full old what) (λ h k. unchanged h.1 k.1) (by_reply answer) h k
