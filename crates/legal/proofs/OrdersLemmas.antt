-- How the order goes on is settled: between two states, one event with one reply leads from one order to one order.
use Rattle.std.proofs.Common.{◌≡◌, ℕ, suc, Bool, true, false, List, [], ◌∷◌, length, Option, Some, None, eqb-true, refl, sym, ap, ◌∙◌, subst, arith}
use Rattle.std.specs.Prelude.{map, slice_set}
use Rattle.std.proofs.lemmas.Bool.{eq-eqb}
use Rattle.machine.specs.declared.event.Goal.{Goal}
use Rattle.machine.specs.declared.event.Goal.TheVariants.{Amount}
use Rattle.machine.specs.declared.event.Event.{Event}
use Rattle.machine.specs.declared.event.Event.TheVariants as event
use Rattle.machine.specs.declared.reply.Reply.{Reply}
use Rattle.machine.specs.declared.reply.Reply.TheVariants as reply
use Rattle.machine.specs.Pages.{Pages, is_held_in, is_number}
use Rattle.machine.specs.State.{State, is_swap_free}
use Rattle.machine.specs.Order.{Cursor}
use Rattle.machine.specs.Reclaim.{target_of, goal_of}
use Rattle.machine.specs.Generations.{Gens}
use Rattle.machine.specs.Aging.{Seen, is_marked}
use Rattle.machine.specs.Eviction.{Picks}
use Rattle.machine.specs.Tree.{node_at}
use Rattle.machine.specs.Lists.{HeldLists, hits_at, Order, served, cursor_served, seen_of, with_seen, kept_gens, Generation, Youngest, with_fresh, GoesOn, TakesNext, RemovesLists, Keeps, MergesMarks, Orders}
use Rattle.machine.proofs.Values.{some_inj}
use Rattle.page_lists.proofs.PicksLemmas.{picks_alike}

-- ---- numbers and marks that answer alike are one

numbers_alike : (a b : Option ℕ) → ((p : ℕ) → is_number a p ≡ is_number b p) → a ≡ b
numbers_alike None None h = refl
numbers_alike None (Some n) h = let e : false ≡ true = h n ∙ eq-eqb n n refl in cc
numbers_alike (Some m) None h = let e : true ≡ false = sym (eq-eqb m m refl) ∙ h m in cc
numbers_alike (Some m) (Some n) h = ap Some (sym (eqb-true n m (sym (h m) ∙ eq-eqb m m refl)))

pub marks_alike : (ms ns : List Bool) → length ms ≡ length ns → ((p : ℕ) → is_marked ms p ≡ is_marked ns p) → ms ≡ ns
marks_alike [] [] size h = refl
marks_alike [] (n ∷ ns) size h = absurd (omega (arith, size))
marks_alike (m ∷ ms) [] size h = absurd (omega (arith, size))
marks_alike (m ∷ ms) (n ∷ ns) size h = let first : m ≡ n = h 0 in let rest = marks_alike ms ns (omega (arith, size)) (λ p. h (suc p)) in cc

hits_alike : (ms ns : List ℕ) → length ms ≡ length ns → ((p : ℕ) → hits_at ms p ≡ hits_at ns p) → ms ≡ ns
hits_alike [] [] size h = refl
hits_alike [] (n ∷ ns) size h = absurd (omega (arith, size))
hits_alike (m ∷ ms) [] size h = absurd (omega (arith, size))
hits_alike (m ∷ ms) (n ∷ ns) size h = let first : m ≡ n = h 0 in let rest = hits_alike ms ns (omega (arith, size)) (λ p. h (suc p)) in cc

-- ---- the lists

-- lists with the same groups, marks and hits are the same
pub lists_same : (held held' : HeldLists) → held.groups ≡ held'.groups → held.marks ≡ held'.marks → held.hits ≡ held'.hits → held ≡ held'
lists_same held held' groups marks hits =
    ap (λ (gs : List Gens). let h : HeldLists = record { groups = gs; marks = held.marks; hits = held.hits } in h) groups
    ∙ ap (λ (ms : List Bool). let h : HeldLists = record { groups = held'.groups; marks = ms; hits = held.hits } in h) marks
    ∙ ap (λ (ns : List ℕ). let h : HeldLists = record { groups = held'.groups; marks = held'.marks; hits = ns } in h) hits

-- an order with the same lists and cursors is the same
pub order_same : (order order' : Order) → order.held ≡ order'.held → order.cursors ≡ order'.cursors → order ≡ order'
order_same order order' held cursors =
    ap (λ (h : HeldLists). let o : Order = record { held = h; cursors = order.cursors } in o) held ∙ ap (λ (cs : List Cursor). let o : Order = record { held = order'.held; cursors = cs } in o) cursors

-- the pages that change say what becomes of the lists
pub goes_on_alike : (generation : Generation) (before : Pages) (held : HeldLists) (after : Pages) (held' held'' : HeldLists)
    → GoesOn generation before held after held' → GoesOn generation before held after held'' → held' ≡ held''
goes_on_alike generation before held after held' held'' h h' =
    let fresh : h.fresh ≡ h'.fresh = numbers_alike h.fresh h'.fresh (λ p. h.which p ∙ sym (h'.which p)) in
    let groups : held'.groups ≡ held''.groups = h.groups ∙ ap (λ (p : Option ℕ). with_fresh generation after p (map (kept_gens after) held.groups)) fresh ∙ sym h'.groups in
    let marks : held'.marks ≡ held''.marks = marks_alike held'.marks held''.marks (h.size ∙ sym h'.size) (λ p. h.marks p ∙ sym (h'.marks p)) in
    let hits : held'.hits ≡ held''.hits = hits_alike held'.hits held''.hits (h.counts ∙ sym h'.counts) (λ p. h.hits p ∙ sym (h'.hits p)) in
    lists_same held' held'' groups marks hits

-- ---- the order

-- the page that is taken is the one that the search picks from the group whose turn it is
pub taken_is_picked : (old : State) (order : Order) (goal : Goal) (target g p : ℕ) (seen : Seen) → served old order goal target ≡ Some g → Picks (is_swap_free old) (seen_of order.held g) (Some p) seen
    → (new : State) (order' : Order) → TakesNext old order goal target new order' → is_held_in new.pages p ≡ false
taken_is_picked old order goal target g p seen turn picks new order' h =
    let group : h.g ≡ g = some_inj (sym h.next ∙ turn) in
    let picked : Picks (is_swap_free old) (seen_of order.held g) (Some h.p) h.picked.seen =
    subst (λ (g : ℕ). Picks (is_swap_free old) (seen_of order.held g) (Some h.p) h.picked.seen) group h.picked.picks in
    let page : h.p ≡ p = some_inj (picks_alike (is_swap_free old) (seen_of order.held g) (Some h.p) (Some p) h.picked.seen seen picked picks).0 in
    subst (λ (p : ℕ). is_held_in new.pages p ≡ false) page h.taken

module _ (old new : State) (order order' order'' : Order) where
  -- a page that is taken in turn
  pub takes_next_alike : (goal : Goal) (target : ℕ) → TakesNext old order goal target new order' → TakesNext old order goal target new order'' → order' ≡ order''
  takes_next_alike goal target h h' =
      let group : h.g ≡ h'.g = some_inj (sym h.next ∙ h'.next) in
      let picks' : Picks (is_swap_free old) (seen_of order.held h.g) (Some h'.p) h'.picked.seen =
      subst (λ (g : ℕ). Picks (is_swap_free old) (seen_of order.held g) (Some h'.p) h'.picked.seen) (sym group) h'.picked.picks in
      let seen : h.picked.seen ≡ h'.picked.seen = (picks_alike (is_swap_free old) (seen_of order.held h.g) (Some h.p) (Some h'.p) h.picked.seen h'.picked.seen h.picked.picks picks').1 in
      let looked : h.looked ≡ h'.looked = h.picked.lists ∙ ap (λ (g : ℕ). with_seen order.held g h.picked.seen) group ∙ ap (with_seen order.held h'.g) seen ∙ sym h'.picked.lists in
      let leaves : GoesOn Youngest old.pages h'.looked new.pages order'.held = subst (λ (held : HeldLists). GoesOn Youngest old.pages held new.pages order'.held) looked h.leaves in
      let held : order'.held ≡ order''.held = goes_on_alike Youngest old.pages h'.looked new.pages order'.held order''.held leaves h'.leaves in
      let cursors : order'.cursors ≡ order''.cursors = h.moves ∙ ap (λ (g : ℕ). slice_set order.cursors target (cursor_served old order goal target g)) group ∙ sym h'.moves in
      order_same order' order'' held cursors

  -- an order that is kept
  pub keeps_alike : (what : Event) (answer : Reply) → Keeps old order what answer new order' → Keeps old order what answer new order'' → order' ≡ order''
  keeps_alike what answer h h' =
      let held : order'.held ≡ order''.held = goes_on_alike _ _ _ _ order'.held order''.held h.0 h'.0 in
      let cursors : order'.cursors ≡ order''.cursors = h.1 ∙ sym h'.1 in
      order_same order' order'' held cursors

  -- marks that are merged
  merges_alike : (word bits : ℕ) → MergesMarks old.opening.placement old.pages word bits order.held order'.held × (order'.cursors ≡ order.cursors)
      → MergesMarks old.opening.placement old.pages word bits order.held order''.held × (order''.cursors ≡ order.cursors) → order' ≡ order''
  merges_alike word bits h h' =
      let marks : order'.held.marks ≡ order''.held.marks = marks_alike order'.held.marks order''.held.marks (h.0.size ∙ sym h'.0.size) (λ p. h.0.marks p ∙ sym (h'.0.marks p)) in
      let hits : order'.held.hits ≡ order''.held.hits = hits_alike order'.held.hits order''.held.hits (h.0.counts ∙ sym h'.0.counts) (λ p. h.0.hits p ∙ sym (h'.0.hits p)) in
      order_same order' order'' (lists_same order'.held order''.held (h.0.groups ∙ sym h'.0.groups) marks hits) (h.1 ∙ sym h'.1)

  -- lists that go over to a parent's
  removes_alike : (parent : Option ℕ) (g : ℕ) → RemovesLists parent g order order' → RemovesLists parent g order order'' → order' ≡ order''
  removes_alike None g h h' = absurd h
  removes_alike (Some parent) g h h' = h ∙ sym h'

  -- by the event and its reply
  pub orders_alike : (what : Event) (answer : Reply) → Orders old order what answer new order' → Orders old order what answer new order'' → order' ≡ order''
  orders_alike (event.Relieve cause) (reply.Out ticket) h h' = takes_next_alike (goal_of cause) (target_of cause) h h'
  orders_alike (event.Relieve cause) reply.Dropped h h' = takes_next_alike (goal_of cause) (target_of cause) h h'
  orders_alike (event.ReclaimOne g) (reply.Out ticket) h h' = takes_next_alike Amount g.0 h h'
  orders_alike (event.ReclaimOne g) reply.Dropped h h' = takes_next_alike Amount g.0 h h'
  orders_alike (event.Mkdir path) answer h h' = h ∙ sym h'
  orders_alike (event.Rmdir g) answer h h' = removes_alike (node_at old.tree g.0).parent g.0 h h'
  orders_alike (event.MergeMarks word bits) answer h h' = merges_alike word bits h h'
  orders_alike what answer h h' = keeps_alike what answer h h'
