-- What a chain of joined pages is, and how it goes on being one.
use Rattle.std.proofs.Common.{◌≡◌, ◌≢◌, ℕ, zero, suc, ◌<◌, ◌≤◌, Bool, true, false, List, [], ◌∷◌, ◌++◌, map, length, get_or, Some, None, is_some, refl, sym, ap, subst, ◌∙◌, inl, inr, arith, eqb, length-append}
use Rattle.std.proofs.lemmas.Bool.{false≢true, false_from_ne_true, cases_lt}
use Rattle.std.proofs.lemmas.List.{get_or_past, get_or-map, ext_get_or, length-map}
use Rattle.std.proofs.lemmas.Option.{slice_get-get_or, slice_get_past}
use Rattle.std.proofs.lemmas.Map.Steps.{length-le_from_distinct_below}
use Rattle.std.specs.Prelude.{option_map}
use Rattle.std.specs.List.{IsDistinct}
use Rattle.rings.specs.declared.ring_node.RingNode.{RingNode}
use Rattle.rings.specs.declared.ring_node.RingNode.TheVariants.{Page, Head}
use Rattle.rings.specs.declared.ring_node.Link.{Link}
use Rattle.rings.specs.declared.links.Links.{Links}
use Rattle.rings.specs.RingNodes.{page_node, head_node, IsCounted}
use Rattle.rings.specs.Rings.{RingsOf, list_at, has, first_node, last_from}
use Rattle.rings.specs.Links.{link_at, next_of, IsJoined}
use Rattle.rings.specs.Chains.{AreCountable, IsChain, IsRings, pages_from, lists_of}
use Rattle.rings.proofs.LinkLemmas.{same_next, second_there}
use Rattle.rings.proofs.ListLemmas.{apart_by_recursion, has_first, split}

-- ---- nodes by their numbers

number : RingNode → ℕ
number (Page p) = p.0
number (Head l) = l.0

is_page : RingNode → Bool
is_page (Page p) = true
is_page (Head l) = false

pub same_page : (p q : ℕ) → page_node p ≡ page_node q → p ≡ q
unfolding number
same_page p q same = ap number same

pub same_head : (l m : ℕ) → head_node l ≡ head_node m → l ≡ m
unfolding number
same_head l m same = ap number same

pub page_is_no_head : (p l : ℕ) → page_node p ≢ head_node l
unfolding is_page
page_is_no_head p l same = false≢true (sym (ap is_page same))

pub head_is_no_page : (l p : ℕ) → head_node l ≢ page_node p
head_is_no_page l p same = page_is_no_head p l (sym same)

module _ (t : Links) where
  -- ---- what a chain has

  -- from one node there is one chain to a head
  pub one_chain : (l m : ℕ) (a : RingNode) (xs ys : List ℕ) → IsChain t a xs (head_node l) → IsChain t a ys (head_node m) → (xs ≡ ys) × (l ≡ m)
  one_chain l m a [] [] h k = (refl, same_head l m (same_next t a a _ _ refl h k))
  one_chain l m a [] (y ∷ ys) h k = absurd (head_is_no_page l y (same_next t a a _ _ refl h k.0))
  one_chain l m a (x ∷ xs) [] h k = absurd (page_is_no_head x m (same_next t a a _ _ refl h.0 k))
  one_chain l m a (x ∷ xs) (y ∷ ys) h k =
      let same = same_next t a a _ _ refl h.0 k.0 in
      let rest = one_chain l m (page_node x) xs ys h.1 (subst (λ (n : RingNode). IsChain t n ys (head_node m)) (sym same) k.1) in
      let first : x ≡ y = same_page x y same in
      let more = rest.0 in
      (cc, rest.1)

  -- a chain goes on from its first pages
  pub chain_rest : (a b : RingNode) (xs ys : List ℕ) → IsChain t a (xs ++ ys) b → IsChain t (last_from a xs) ys b
  chain_rest a b [] ys k = k
  chain_rest a b (x ∷ xs) ys k = chain_rest (page_node x) b xs ys k.1

  pub first_is : (l : ℕ) (a : RingNode) (xs : List ℕ) → IsChain t a xs (head_node l) → IsJoined t a (first_node l xs)
  first_is l a [] k = k
  first_is l a (x ∷ xs) k = k.0

  pub last_is : (a b : RingNode) (xs : List ℕ) → IsChain t a xs b → IsJoined t (last_from a xs) b
  last_is a b [] k = k
  last_is a b (x ∷ xs) k = last_is (page_node x) b xs k.1

  -- where a page stands in a chain, which goes on from it
  pub record IsAt (a b : RingNode) (p : ℕ) (xs : List ℕ) : Type 0 where
    pub before : List ℕ
    pub after : List ℕ
    pub whole : xs ≡ before ++ p ∷ after
    pub prev : IsJoined t (last_from a before) (page_node p)
    pub on : IsChain t (page_node p) after b

  pub at_page : (a b : RingNode) (p : ℕ) (xs : List ℕ) → has xs p ≡ true → IsChain t a xs b → IsAt a b p xs
  at_page a b p xs h k =
      let s = split p xs h in
      let rest = chain_rest a b s.before (p ∷ s.after) (subst (λ (ys : List ℕ). IsChain t a ys b) s.whole k) in
      record { before = s.before; after = s.after; whole = s.whole; prev = rest.0; on = rest.1 }

  -- a chain from a page to a head does not come back to the page
  pub no_way_back : (l p : ℕ) (xs : List ℕ) → IsChain t (page_node p) xs (head_node l) → has xs p ≡ false
  no_way_back l p xs k =
      false_from_ne_true (has xs p) (λ h.
      let at = at_page (page_node p) (head_node l) p xs h k in
      let same = ap length (one_chain l l (page_node p) xs at.after k at.on).0 in
      let parts = ap length at.whole ∙ length-append at.before (p ∷ at.after) in
      omega arith)

  pub chain_is_distinct : (l : ℕ) (a : RingNode) (xs : List ℕ) → IsChain t a xs (head_node l) → IsDistinct eqb xs
  unfolding IsDistinct
  chain_is_distinct l a [] k = tt
  chain_is_distinct l a (x ∷ xs) k =
      (apart_by_recursion x xs (no_way_back l x xs k.1), chain_is_distinct l (page_node x) xs k.1)

  -- a node with a link is in the tables
  pub page_within : (p : ℕ) → is_some (link_at t (page_node p)) ≡ true → p < length t.pages.items
  page_within p there =
      elim (cases_lt p (length t.pages.items)) [
        | inl within ↦ within
        | inr past ↦ absurd (false≢true (sym (ap is_some (get_or_past t.pages.items p None past)) ∙ there))
      ]

  pub counted : AreCountable t → (n : RingNode) → is_some (link_at t n) ≡ true → IsCounted n
  counted is (Page p) there = let within = page_within p.0 there in omega (arith, is.pages)
  counted is (Head l) there =
      elim (cases_lt l.0 (length t.heads.items)) [
        | inl within ↦ omega (arith, is.heads)
        | inr past ↦ absurd (false≢true (sym (ap is_some (slice_get_past t.heads.items l.0 past)) ∙ there))
      ]

  pub chain_fits : (l : ℕ) (a : RingNode) (xs : List ℕ) → IsChain t a xs (head_node l) → length xs ≤ length t.pages.items
  chain_fits l a xs k =
      length-le_from_distinct_below xs (length t.pages.items) (chain_is_distinct l a xs k)
      (λ q h. page_within q (second_there t _ (page_node q) (at_page a (head_node l) q xs h k).prev))

  -- ---- a walk finds the chain

  walk_ends : (n l : ℕ) → pages_from t n (Some (head_node l)) ≡ []
  walk_ends zero l = refl
  walk_ends (suc n) l = refl

  pub walk_finds : (n l : ℕ) (a : RingNode) (xs : List ℕ) → length xs ≤ n → IsChain t a xs (head_node l) → pages_from t n (next_of t a) ≡ xs
  walk_finds n l a [] enough k = ap (pages_from t n) k.next ∙ walk_ends n l
  walk_finds zero l a (x ∷ xs) enough k = absurd (omega arith)
  walk_finds (suc n) l a (x ∷ xs) enough k =
      ap (pages_from t (suc n)) k.0.next ∙ ap (λ (ys : List ℕ). x ∷ ys) (walk_finds n l (page_node x) xs (omega arith) k.1)

  -- the lists that the links stand for are those that a walk finds
  pub lists_are : (lists : List (List ℕ)) → IsRings t lists → lists_of t ≡ lists
  unfolding lists_of
  lists_are lists r =
      let walk : Link → List ℕ = λ link. pages_from t (length t.pages.items) (Some link.next) in
      let none : Link = record { prev = head_node 0; next = head_node 0 } in
      let long : length (map walk t.heads.items) ≡ length lists = length-map t.heads.items walk ∙ sym r.count in
      ext_get_or [] (map walk t.heads.items) lists long (λ l within.
      let inside : l < length t.heads.items = omega (arith, length-map t.heads.items walk) in
      let listed : l < length lists = omega arith in
      let chain = r.rings l listed in
      let read : next_of t (head_node l) ≡ Some (get_or t.heads.items l none).next =
      ap (option_map (λ (link : Link). link.next)) (slice_get-get_or t.heads.items l none inside) in
      get_or-map walk t.heads.items l none [] inside
      ∙ ap (pages_from t (length t.pages.items)) (sym read)
      ∙ walk_finds (length t.pages.items) l (head_node l) (list_at lists l) (chain_fits l (head_node l) (list_at lists l) chain) chain)

  -- the invariant of the rings, from any lists that the links stand for
  pub hold_as_found : (lists : List (List ℕ)) → IsRings t lists → IsRings t (lists_of t)
  hold_as_found lists r = subst (λ (found : List (List ℕ)). IsRings t found) (sym (lists_are lists r)) r

  -- ---- the ends of a chain

  -- from a page that goes on to a head, nothing leads back to it
  pub not_to_itself : (l p : ℕ) (xs : List ℕ) → IsChain t (page_node p) xs (head_node l) → IsJoined t (page_node p) (page_node p) → ⊥
  not_to_itself l p xs k again = false≢true (sym (no_way_back l p (p ∷ xs) (again, k)) ∙ has_first p xs)

  -- a ring that is not empty begins with a page and ends with one
  pub first_page : (l : ℕ) (xs : List ℕ) → 0 < length xs → IsChain t (head_node l) xs (head_node l) → (n : RingNode) × (n ≢ head_node l) × IsJoined t (head_node l) n
  first_page l [] some k = absurd (omega arith)
  first_page l (x ∷ xs) some k = (page_node x, page_is_no_head x l, k.0)

  last_is_page : (l p : ℕ) (xs : List ℕ) → last_from (page_node p) xs ≢ head_node l
  last_is_page l p [] same = page_is_no_head p l same
  last_is_page l p (x ∷ xs) same = last_is_page l x xs same

  pub last_page : (l : ℕ) (xs : List ℕ) → 0 < length xs → IsChain t (head_node l) xs (head_node l) → (n : RingNode) × (n ≢ head_node l) × IsJoined t n (head_node l)
  last_page l [] some k = absurd (omega arith)
  last_page l (x ∷ xs) some k = (last_from (page_node x) xs, last_is_page l x xs, last_is (page_node x) (head_node l) xs k.1)

-- the links stand for the lists that a contract sees
pub as_seen : {t : Links} {seen : RingsOf} {numbers room : ℕ} → ◌≡◌ {A = RingsOf} (record { lists = lists_of t; numbers = numbers; room = room }) seen → IsRings t (lists_of t) → IsRings t seen.lists
as_seen {t} is r = subst (λ (v : RingsOf). IsRings t v.lists) is r
