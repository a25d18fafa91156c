-- How the three changes of the links change the lists that they stand for.
use Rattle.std.proofs.Common.{◌≡◌, ◌≢◌, ◌⊎◌, ℕ, ◌<◌, ◌≤◌, true, false, List, [], ◌∷◌, ◌++◌, map, length, set, is_some, refl, sym, ap, subst, ◌∙◌, inl, inr, arith, eqb, length-set, length-append}
use Rattle.std.proofs.lemmas.Bool.{false≢true, eqb-true, eqb-false, or_parts, cases_eq, cases_Bool, false_from_ne_true}
use Rattle.std.proofs.lemmas.List.{get_or-set_same, get_or-set_other, get_or-map, ext_get_or, length-map}
use Rattle.rings.specs.declared.ring_node.RingNode.{RingNode}
use Rattle.rings.specs.declared.links.Links.{Links}
use Rattle.rings.specs.RingNodes.{page_node, head_node, IsCounted}
use Rattle.rings.specs.Rings.{list_at, has, without, first_node}
use Rattle.rings.specs.Links.{link_at, IsJoined, SameSize, Adds, Removes, Splices}
use Rattle.rings.specs.Chains.{IsChain, IsRings, IsGap, AreCountable}
use Rattle.rings.proofs.ListLemmas.{has_first, has_more, has_behind, has_round, has_still, without_none, list_within}
use Rattle.rings.proofs.LinkLemmas.{first_there, second_there}
use Rattle.rings.proofs.ChainLemmas.{same_page, same_head, page_is_no_head, head_is_no_page, one_chain, chain_rest, first_is, IsAt, at_page, counted, no_way_back}

-- ---- chains through a change that keeps what joins such nodes

module _ (old new : Links) (P : RingNode → Type 0) (pages : (p : ℕ) → P (page_node p)) (kept : (a : RingNode) → P a → (p : ℕ) → IsJoined old a (page_node p) → IsJoined new a (page_node p)) where
  -- a chain stays, up to what it now ends with
  pub chain_stays : (b c : RingNode) → ((a : RingNode) → P a → IsJoined old a b → IsJoined new a c) → (a : RingNode) (xs : List ℕ) → P a → IsChain old a xs b → IsChain new a xs c
  chain_stays b c end a [] from k = end a from k
  chain_stays b c end a (x ∷ xs) from k = (kept a from x k.0, chain_stays b c end (page_node x) xs (pages x) k.1)

  -- a chain goes on with another
  chain_goes_on : (b c : RingNode) (ys : List ℕ) → ((a : RingNode) → P a → IsJoined old a b → IsChain new a ys c) → (a : RingNode) (xs : List ℕ) → P a → IsChain old a xs b → IsChain new a (xs ++ ys) c
  chain_goes_on b c ys rest a [] from k = rest a from k
  chain_goes_on b c ys rest a (x ∷ xs) from k = (kept a from x k.0, chain_goes_on b c ys rest (page_node x) xs (pages x) k.1)

-- tables that are as long as others are as countable
still_countable : (old new : Links) → SameSize old new → AreCountable old → AreCountable new
still_countable old new size is = record {
  pages = subst (λ (n : ℕ). n < 2147483648) (sym size.pages) is.pages;
  heads = subst (λ (n : ℕ). n < 2147483648) (sym size.heads) is.heads;
}

-- ---- lists after one of them changed

list_same : (lists : List (List ℕ)) (l m : ℕ) (xs : List ℕ) → m ≡ l → l < length lists → list_at (set lists l xs) m ≡ xs
list_same lists l m xs same within = ap (list_at (set lists l xs)) same ∙ get_or-set_same lists l xs [] within

list_other : (lists : List (List ℕ)) (l m : ℕ) (xs : List ℕ) → m ≢ l → list_at (set lists l xs) m ≡ list_at lists m
list_other lists l m xs apart = get_or-set_other lists l m xs [] apart

-- ---- no page is in two lists

module _ {t : Links} {lists : List (List ℕ)} (r : IsRings t lists) where
  -- where a listed page stands
  pub at_listed : (l p : ℕ) → has (list_at lists l) p ≡ true → IsAt t (head_node l) (head_node l) p (list_at lists l)
  at_listed l p h = at_page t (head_node l) (head_node l) p (list_at lists l) h (r.rings l (list_within lists l p h))

  pub one_list : (p l m : ℕ) → has (list_at lists l) p ≡ true → has (list_at lists m) p ≡ true → l ≡ m
  one_list p l m h k = (one_chain t l m (page_node p) _ _ (at_listed l p h).on (at_listed m p k).on).1

-- ---- one list becomes another

-- a page that was in a list is in this one now, or in another still
abbrev IsFound : List (List ℕ) → ℕ → List ℕ → ℕ → Type 0
IsFound lists l xs q = (has xs q ≡ true) ⊎ ((m : ℕ) × (m ≢ l) × (has (list_at lists m) q ≡ true))

still_found : (lists : List (List ℕ)) (l : ℕ) (xs : List ℕ) (q : ℕ) → (has (list_at lists l) q ≡ true → has xs q ≡ true) → (m : ℕ) × (has (list_at lists m) q ≡ true) → IsFound lists l xs q
still_found lists l xs q keeps found =
    elim (cases_eq found.0 l) [
      | inl same ↦ inl (keeps (subst (λ (n : ℕ). has (list_at lists n) q ≡ true) same found.1))
      | inr apart ↦ inr (found.0, apart, found.1)
    ]

one_becomes : (old new : Links) (lists : List (List ℕ)) (l : ℕ) (xs : List ℕ) → IsRings old lists → l < length lists → SameSize old new → IsChain new (head_node l) xs (head_node l) → ((m : ℕ) → m ≢ l → IsChain old (head_node m) (list_at lists m) (head_node m) → IsChain new (head_node m) (list_at lists m) (head_node m)) → ((q : ℕ) → is_some (link_at new (page_node q)) ≡ true → IsFound lists l xs q) → IsRings new (set lists l xs)
one_becomes old new lists l xs r within size own others found = record {
  countable = still_countable old new size r.countable;
  count = length-set lists l xs ∙ r.count ∙ sym size.heads;
  rings = λ m inside.
      elim (cases_eq m l) [
        | inl same ↦
            rw (list_same lists l m xs same within) (subst (λ (n : ℕ). IsChain new (head_node n) xs (head_node n)) (sym same) own)
        | inr apart ↦ rw (list_other lists l m xs apart) (others m apart (r.rings m (omega (arith, length-set lists l xs))))
      ];
  listed = λ q linked.
      elim (found q linked) [
        | inl here ↦ (l, rw (list_same lists l l xs refl within) here)
        | inr there ↦ (there.0, rw (list_other lists l there.0 xs there.1) there.2)
      ];
}

-- ---- a page comes to the end of a list

chain_added : (old new : Links) (p l : ℕ) → Adds old new (page_node p) (head_node l) → (xs : List ℕ) → IsChain old (head_node l) xs (head_node l) → IsChain new (head_node l) (xs ++ p ∷ []) (head_node l)
chain_added old new p l adds xs k =
    chain_goes_on old new (λ _. Unit {0}) (λ _. tt)
    (λ a _ q h. adds.others a (page_node q) h (page_is_no_head q l))
    (head_node l) (head_node l) (p ∷ [])
    (λ a _ h. (adds.behind a h, adds.before))
    (head_node l) xs tt k

chain_added_elsewhere : (old new : Links) (p l m : ℕ) → m ≢ l → Adds old new (page_node p) (head_node l) → (xs : List ℕ) → IsChain old (head_node m) xs (head_node m) → IsChain new (head_node m) xs (head_node m)
chain_added_elsewhere old new p l m apart adds xs k =
    chain_stays old new (λ _. Unit {0}) (λ _. tt)
    (λ a _ q h. adds.others a (page_node q) h (page_is_no_head q l))
    (head_node m) (head_node m)
    (λ a _ h. adds.others a (head_node m) h (λ same. apart (same_head m l same)))
    (head_node m) xs tt k

pub added : (old new : Links) (lists : List (List ℕ)) (p l : ℕ) → IsRings old lists → l < length lists → Adds old new (page_node p) (head_node l) → IsRings new (set lists l (list_at lists l ++ p ∷ []))
added old new lists p l r within adds =
    one_becomes old new lists l (list_at lists l ++ p ∷ []) r within adds.size (chain_added old new p l adds (list_at lists l) (r.rings l within)) (λ m apart k. chain_added_elsewhere old new p l m apart adds (list_at lists m) k) (λ q linked.
    elim (cases_eq q p) [
      | inl same ↦ inl (has_behind (list_at lists l) (p ∷ []) q (subst (λ (n : ℕ). has (n ∷ []) q ≡ true) same (has_first q [])))
      | inr other ↦
          still_found lists l (list_at lists l ++ p ∷ []) q (λ h. has_more (list_at lists l) (p ∷ []) q h)
          (r.listed q (sym (adds.there (page_node q) (λ same. other (same_page q p same))) ∙ linked))
    ])

-- ---- a page leaves its list

chain_without : (old new : Links) (p l : ℕ) → Removes old new (page_node p) → (a : RingNode) → a ≢ page_node p → (xs : List ℕ) → has xs p ≡ false → IsChain old a xs (head_node l) → IsChain new a xs (head_node l)
chain_without old new p l removes a apart [] none k = removes.others a (head_node l) k apart (head_is_no_page l p)
chain_without old new p l removes a apart (x ∷ xs) none k =
    let parts = or_parts (eqb p x) (has xs p) none in
    let other : page_node x ≢ page_node p = λ same. eqb-false p x parts.0 (sym (same_page x p same)) in
    (removes.others a (page_node x) k.0 apart other, chain_without old new p l removes (page_node x) other xs parts.1 k.1)

-- a chain that goes on behind the page goes on behind its neighbour
chain_closes : (old new : Links) (p l : ℕ) → Removes old new (page_node p) → (a : RingNode) → IsJoined old a (page_node p) → (xs : List ℕ) → has xs p ≡ false → IsChain old (page_node p) xs (head_node l) → IsChain new a xs (head_node l)
chain_closes old new p l removes a h [] none k = removes.around a (head_node l) h k
chain_closes old new p l removes a h (x ∷ xs) none k =
    let parts = or_parts (eqb p x) (has xs p) none in
    let other : page_node x ≢ page_node p = λ same. eqb-false p x parts.0 (sym (same_page x p same)) in
    (removes.around a (page_node x) h k.0, chain_without old new p l removes (page_node x) other xs parts.1 k.1)

chain_removed : (old new : Links) (p l : ℕ) → Removes old new (page_node p) → (a : RingNode) → a ≢ page_node p → (xs : List ℕ) → IsChain old a xs (head_node l) → IsChain new a (without p xs) (head_node l)
chain_removed old new p l removes a apart [] k = removes.others a (head_node l) k apart (head_is_no_page l p)
chain_removed old new p l removes a apart (x ∷ xs) k =
    elim (cases_Bool (eqb p x)) [
      | inl same ↦
          let here : x ≡ p = sym (eqb-true p x same) in
          let first = subst (λ (n : ℕ). IsJoined old a (page_node n)) here k.0 in
          let rest = subst (λ (n : ℕ). IsChain old (page_node n) xs (head_node l)) here k.1 in
          let none = no_way_back old l p xs rest in
          rw (same, without_none p xs none) (chain_closes old new p l removes a first xs none rest)
      | inr differs ↦
          let other : page_node x ≢ page_node p = λ e. eqb-false p x differs (sym (same_page x p e)) in
          rw differs (removes.others a (page_node x) k.0 apart other, chain_removed old new p l removes (page_node x) other xs k.1)
    ]

pub removed : (old new : Links) (lists : List (List ℕ)) (p l : ℕ) → IsRings old lists → has (list_at lists l) p ≡ true → Removes old new (page_node p) → IsRings new (set lists l (without p (list_at lists l)))
removed old new lists p l r here removes =
    let within = list_within lists l p here in
    one_becomes old new lists l (without p (list_at lists l)) r within removes.size (chain_removed old new p l removes (head_node l) (head_is_no_page l p) (list_at lists l) (r.rings l within)) (λ m apart k.
    let none : has (list_at lists m) p ≡ false =
    false_from_ne_true (has (list_at lists m) p) (λ h. apart (one_list r p m l h here)) in
    chain_without old new p m removes (head_node m) (head_is_no_page m p) (list_at lists m) none k) (λ q linked.
    let other : q ≢ p = λ same. false≢true (sym (ap is_some removes.gone) ∙ ap (λ (n : ℕ). is_some (link_at new (page_node n))) (sym same) ∙ linked) in
    still_found lists l (without p (list_at lists l)) q (has_still (list_at lists l) p q other)
    (r.listed q (sym (removes.there (page_node q) (λ same. other (same_page q p same))) ∙ linked)))

-- each list loses the page, since no other has it
each_loses : (t : Links) (lists : List (List ℕ)) (p l : ℕ) → IsRings t lists → has (list_at lists l) p ≡ true → (m : ℕ) → list_at (set lists l (without p (list_at lists l))) m ≡ without p (list_at lists m)
each_loses t lists p l r here m =
    elim (cases_eq m l) [
      | inl same ↦
          list_same lists l m (without p (list_at lists l)) same (list_within lists l p here)
          ∙ ap (λ (n : ℕ). without p (list_at lists n)) (sym same)
      | inr apart ↦
          let none : has (list_at lists m) p ≡ false =
          false_from_ne_true (has (list_at lists m) p) (λ h. apart (one_list r p m l h here)) in
          list_other lists l m (without p (list_at lists l)) apart ∙ sym (without_none p (list_at lists m) none)
    ]

pub all_lose : (t : Links) (lists : List (List ℕ)) (p l : ℕ) → IsRings t lists → has (list_at lists l) p ≡ true → set lists l (without p (list_at lists l)) ≡ map (without p) lists
all_lose t lists p l r here =
    let shorter = without p (list_at lists l) in
    ext_get_or [] (set lists l shorter) (map (without p) lists) (length-set lists l shorter ∙ sym (length-map lists (without p))) (λ m within.
    each_loses t lists p l r here m ∙ sym (get_or-map (without p) lists m [] [] (omega (arith, length-set lists l shorter))))

-- ---- a whole list comes between two neighbours in another

-- the target's list becomes this, and the source's is empty
module _ (lists new : List (List ℕ)) (s t : ℕ) (both : List ℕ) (apart : s ≢ t) (becomes : new ≡ set (set lists t both) s []) where
  pub moved_length : length new ≡ length lists
  moved_length = ap length becomes ∙ length-set (set lists t both) s [] ∙ length-set lists t both

  pub moved_source : s < length lists → (m : ℕ) → m ≡ s → list_at new m ≡ []
  moved_source within m same =
      ap (λ (all : List (List ℕ)). list_at all m) becomes
      ∙ list_same (set lists t both) s m [] same (omega (arith, length-set lists t both))

  pub moved_target : t < length lists → (m : ℕ) → m ≡ t → list_at new m ≡ both
  moved_target within m same =
      ap (λ (all : List (List ℕ)). list_at all m) becomes
      ∙ list_other (set lists t both) s m [] (λ e. apart (sym e ∙ same))
      ∙ list_same lists t m both same within

  pub moved_other : (m : ℕ) → m ≢ s → m ≢ t → list_at new m ≡ list_at lists m
  moved_other m not_s not_t =
      ap (λ (all : List (List ℕ)). list_at all m) becomes
      ∙ list_other (set lists t both) s m [] not_s
      ∙ list_other lists t m both not_t

-- what is known of the lists before
pub record CanSplice (links : Links) (lists : List (List ℕ)) (s t : ℕ) (a b : RingNode) : Type 0 where
  pub rings : IsRings links lists
  pub source : s < length lists
  pub target : t < length lists
  pub apart : s ≢ t
  pub some : 0 < length (list_at lists s)
  pub gap : IsGap lists t a b

module _ {old : Links} {lists : List (List ℕ)} {s t : ℕ} {before after : RingNode} (can : CanSplice old lists s t before after) where
  abbrev front : List ℕ
  front = can.gap.front

  abbrev rest : List ℕ
  rest = can.gap.rest

  target_ring : IsChain old (head_node t) (front ++ rest) (head_node t)
  target_ring = subst (λ (ps : List ℕ). IsChain old (head_node t) ps (head_node t)) can.gap.whole (can.rings.rings t can.target)

  -- from the first of the two go the pages of the rest
  rest_from : IsChain old before rest (head_node t)
  rest_from =
      subst (λ (n : RingNode). IsChain old n rest (head_node t)) (sym can.gap.prev) (chain_rest old (head_node t) (head_node t) front rest target_ring)

  pub gap_joined : IsJoined old before after
  gap_joined = subst (λ (n : RingNode). IsJoined old before n) (sym can.gap.next) (first_is old t before rest rest_from)

  pub before_counted : IsCounted before
  before_counted = counted old can.rings.countable before (first_there old before after gap_joined)

  pub after_counted : IsCounted after
  after_counted = counted old can.rings.countable after (second_there old before after gap_joined)

  pub before_not_source : before ≢ head_node s
  before_not_source same =
      can.apart (one_chain old s t (head_node s) (list_at lists s) rest (can.rings.rings s can.source) (subst (λ (n : RingNode). IsChain old n rest (head_node t)) same rest_from)).1

  pub after_not_source : after ≢ head_node s
  after_not_source = by_rest rest can.gap.next
    where
      by_rest : (ys : List ℕ) → after ≡ first_node t ys → after ≢ head_node s
      by_rest [] is same = can.apart (same_head s t (sym same ∙ is))
      by_rest (y ∷ ys) is same = page_is_no_head y s (sym is ∙ same)

  module _ {new : Links} (splices : Splices old new (head_node s) before after) where
    -- from other nodes go other chains
    not_before : (m : ℕ) (a : RingNode) (xs : List ℕ) → IsChain old a xs (head_node m) → (m ≡ t → length xs ≢ length rest) → a ≢ before
    not_before m a xs k differs same =
        let one = one_chain old m t before xs rest (subst (λ (n : RingNode). IsChain old n xs (head_node m)) same k) rest_from in
        differs one.1 (ap length one.0)

    -- a chain of another list stays, and so does what comes behind the second of the two
    stays : (m : ℕ) (a : RingNode) (xs : List ℕ) → m ≢ s → a ≢ head_node s → (m ≡ t → length xs < length rest) → IsChain old a xs (head_node m) → IsChain new a xs (head_node m)
    stays m a [] other from short k =
        splices.others a (head_node m) k from (λ same. other (same_head m s same)) (not_before m a [] k (λ e. let less = short e in omega arith))
    stays m a (x ∷ xs) other from short k =
        (splices.others a (page_node x) k.0 from (page_is_no_head x s) (not_before m a (x ∷ xs) k (λ e. let less = short e in omega arith)), stays m (page_node x) xs other (page_is_no_head x s) (λ e. let less = short e in omega arith) k.1)

    -- behind the last page of the source comes the rest
    rest_behind : (a : RingNode) → IsJoined old a (head_node s) → (ys : List ℕ) → length ys ≤ length rest → IsChain old before ys (head_node t) → IsChain new a ys (head_node t)
    rest_behind a h [] few k = splices.back a (head_node t) h k
    rest_behind a h (y ∷ ys) few k =
        (splices.back a (page_node y) h k.0, stays t (page_node y) ys (λ e. can.apart (sym e)) (page_is_no_head y s) (λ e. omega arith) k.1)

    source_goes_on : (a : RingNode) (xs : List ℕ) → a ≢ head_node s → IsChain old a xs (head_node s) → IsChain new a (xs ++ rest) (head_node t)
    source_goes_on a [] from k = rest_behind a k rest (omega arith) rest_from
    source_goes_on a (x ∷ xs) from k =
        (splices.others a (page_node x) k.0 from (page_is_no_head x s) (not_before s a (x ∷ xs) k (λ e. absurd (can.apart e))), source_goes_on (page_node x) xs (page_is_no_head x s) k.1)

    -- behind the first of the two comes the source
    source_behind : (a : RingNode) → IsJoined old a after → (xs : List ℕ) → 0 < length xs → IsChain old (head_node s) xs (head_node s) → IsChain new a (xs ++ rest) (head_node t)
    source_behind a h [] some k = absurd (omega arith)
    source_behind a h (x ∷ xs) some k =
        (splices.front a (page_node x) h k.0, source_goes_on (page_node x) xs (page_is_no_head x s) k.1)

    target_goes_on : (a : RingNode) (xs : List ℕ) → a ≢ head_node s → IsChain old a (xs ++ rest) (head_node t) → IsChain new a (xs ++ (list_at lists s ++ rest)) (head_node t)
    target_goes_on a [] from k =
        source_behind a (subst (λ (n : RingNode). IsJoined old a n) (sym can.gap.next) (first_is old t a rest k)) (list_at lists s) can.some (can.rings.rings s can.source)
    target_goes_on a (x ∷ xs) from k =
        let more : (x ∷ xs) ++ rest ≡ x ∷ (xs ++ rest) = refl in
        let size = length-append xs rest in
        (splices.others a (page_node x) k.0 from (page_is_no_head x s) (not_before t a (x ∷ (xs ++ rest)) k (λ _ e. omega arith)), target_goes_on (page_node x) xs (page_is_no_head x s) k.1)

    -- the source stands between the two, and is empty
    pub spliced : IsRings new (set (set lists t (front ++ (list_at lists s ++ rest))) s [])
    spliced =
        let both = front ++ (list_at lists s ++ rest) in
        let lists_then = set (set lists t both) s [] in
        let long = moved_length lists lists_then s t both can.apart refl in
        record {
          countable = still_countable old new splices.size can.rings.countable;
          count = long ∙ can.rings.count ∙ sym splices.size.heads;
          rings = λ m inside.
              elim (cases_eq m s) [
                | inl same ↦
                    rw (moved_source lists lists_then s t both can.apart refl can.source m same)
                    (subst (λ (n : ℕ). IsJoined new (head_node n) (head_node n)) (sym same) splices.emptied)
                | inr not_s ↦
                    elim (cases_eq m t) [
                      | inl same ↦
                          rw (moved_target lists lists_then s t both can.apart refl can.target m same)
                          (subst (λ (n : ℕ). IsChain new (head_node n) both (head_node n)) (sym same)
                          (target_goes_on (head_node t) front (λ e. can.apart (sym (same_head t s e))) target_ring))
                      | inr not_t ↦
                          rw (moved_other lists lists_then s t both can.apart refl m not_s not_t)
                          (stays m (head_node m) (list_at lists m) not_s (λ e. not_s (same_head m s e)) (λ e. absurd (not_t e)) (can.rings.rings m (omega arith)))
                    ]
              ];
          listed = λ q linked.
              let found = can.rings.listed q (sym (splices.there (page_node q)) ∙ linked) in
              let in_both : has both q ≡ true → (l : ℕ) × (has (list_at lists_then l) q ≡ true) =
              λ h. (t, rw (moved_target lists lists_then s t both can.apart refl can.target t refl) h) in
              elim (cases_eq found.0 s) [
                | inl same ↦
                    in_both (has_behind front (list_at lists s ++ rest) q (has_more (list_at lists s) rest q (subst (λ (n : ℕ). has (list_at lists n) q ≡ true) same found.1)))
                | inr not_s ↦
                    elim (cases_eq found.0 t) [
                      | inl same ↦
                          in_both (has_round front (list_at lists s) rest q (ap (λ (ps : List ℕ). has ps q) (sym can.gap.whole) ∙ subst (λ (n : ℕ). has (list_at lists n) q ≡ true) same found.1))
                      | inr not_t ↦ (found.0, rw (moved_other lists lists_then s t both can.apart refl found.0 not_s not_t) found.1)
                    ]
              ];
        }
