-- What a read of the links says of the lists.
use Rattle.std.proofs.Common.{◌≡◌, ℕ, ◌<◌, true, List, [], ◌∷◌, ◌++◌, length, Option, Some, None, is_some, slice_get, refl, sym, ap, subst, ◌∙◌, inl, inr, arith, nat_lt, eqb, Bor, option_copied}
use Rattle.std.proofs.lemmas.Bool.{false≢true, cases_Bool, cases_lt, lt-ltb, le-ltb, false_from_ne_true}
use Rattle.std.proofs.lemmas.List.{get_or_past}
use Rattle.std.proofs.lemmas.Option.{slice_get-get_or, slice_get_past, slice_get_within, none-some, same_Some}
use Rattle.std.specs.Prelude.{option_map, IfSome}
use Rattle.std.specs.List.{last_or, IsDistinct}
use Rattle.rings.specs.declared.ring_node.RingNode.{RingNode}
use Rattle.rings.specs.declared.ring_node.RingNode.TheVariants.{Page, Head}
use Rattle.rings.specs.declared.ring_node.Link.{Link}
use Rattle.rings.specs.declared.links.Links.{Links}
use Rattle.rings.specs.RingNodes.{page_node, head_node, page_of}
use Rattle.rings.specs.Rings.{list_at, has, is_listed, is_there, AreApart, IsLinkOf, IsAfter, IsBefore, first_node, last_from, last_node}
use Rattle.rings.specs.Links.{link_at, IsJoined}
use Rattle.rings.specs.Chains.{IsChain, IsRings}
use Rattle.rings.proofs.LinkLemmas.{second_there, prev_is, next_is}
use Rattle.rings.proofs.ListLemmas.{listed_from, listed_in, list_within, nothing_twice, has_behind, has_first}
use Rattle.rings.proofs.RingLemmas.{at_listed, one_list}
use Rattle.rings.proofs.ChainLemmas.{chain_rest, chain_is_distinct, first_is, last_is, page_within}

pub some_copied : (o : Option (Bor Link)) → is_some o ≡ is_some (option_copied o)
some_copied None = refl
some_copied (Some link) = refl

pub first_page_is : (l : ℕ) (xs : List ℕ) → page_of (first_node l xs) ≡ slice_get xs 0
first_page_is l [] = refl
first_page_is l (x ∷ xs) = refl

last_page_is : (n : RingNode) (xs : List ℕ) → page_of (last_from n xs) ≡ last_or (page_of n) xs
last_page_is n [] = refl
last_page_is n (x ∷ xs) = last_page_is (page_node x) xs

module _ {t : Links} {lists : List (List ℕ)} (r : IsRings t lists) where
  -- a page has a link where it is in a list, and else none
  pub page_linked : (p : ℕ) → is_some (link_at t (page_node p)) ≡ is_listed lists p
  page_linked p =
      elim (cases_Bool (is_listed lists p)) [
        | inl listed ↦
            let found = listed_in lists p listed in
            second_there t _ (page_node p) (at_listed r found.0 p found.1).prev ∙ sym listed
        | inr unlisted ↦
            false_from_ne_true _ (λ linked.
            let found = r.listed p linked in
            false≢true (sym unlisted ∙ listed_from lists found.0 p found.1))
            ∙ sym unlisted
      ]

  head_linked : (l : ℕ) → is_some (slice_get t.heads.items l) ≡ nat_lt l (length lists)
  head_linked l =
      elim (cases_lt l (length lists)) [
        | inl within ↦
            let inside : l < length t.heads.items = omega (arith, r.count) in
            let none : Link = record { prev = head_node 0; next = head_node 0 } in
            ap is_some (slice_get-get_or t.heads.items l none inside) ∙ sym (lt-ltb l (length lists) within)
        | inr past ↦
            ap is_some (slice_get_past t.heads.items l (omega (arith, r.count))) ∙ sym (le-ltb l (length lists) past)
      ]

  pub linked : (node : RingNode) → is_some (link_at t node) ≡ is_there lists node
  linked (Page p) = page_linked p.0
  linked (Head l) = head_linked l.0

  page_link : (p : ℕ) (link : Link) → link_at t (page_node p) ≡ Some link → IsLinkOf lists (page_node p) link
  page_link p link read =
      let found = r.listed p (ap is_some read) in
      let at = at_listed r found.0 p found.1 in
      record {
        list = found.0;
        before = at.before;
        after = at.after;
        stands = at.whole;
        prev = sym (prev_is t _ (page_node p) link read at.prev);
        next = sym (next_is t (page_node p) _ link read (first_is t found.0 (page_node p) at.after at.on));
      }

  pub head_link : (l : ℕ) (link : Link) → slice_get t.heads.items l ≡ Some link → IsLinkOf lists (head_node l) link
  head_link l link read =
      let within : l < length lists = omega (arith, slice_get_within t.heads.items l link read, r.count) in
      let chain = r.rings l within in
      record {
        within = within;
        prev = sym (prev_is t _ (head_node l) link read (last_is t (head_node l) (head_node l) (list_at lists l) chain));
        next = sym (next_is t (head_node l) _ link read (first_is t l (head_node l) (list_at lists l) chain));
      }

  some_link : (node : RingNode) (link : Link) → link_at t node ≡ Some link → IsLinkOf lists node link
  some_link (Page p) link read = page_link p.0 link read
  some_link (Head l) link read = head_link l.0 link read

  -- what is stored is what the lists say
  pub stored_link : (node : RingNode) (o : Option Link) → o ≡ link_at t node → IfSome o (λ link. IsLinkOf lists node link)
  stored_link node None read = tt
  stored_link node (Some link) read = some_link node link (sym read)

  -- the number of a listed page is one of the table's
  pub listed_within : (p : ℕ) → is_listed lists p ≡ true → p < length t.pages.items
  listed_within p listed =
      let found = listed_in lists p listed in
      page_within t p (second_there t _ (page_node p) (at_listed r found.0 p found.1).prev)

  pub are_apart : AreApart lists
  are_apart = record {
    one = λ p l m h k. one_list r p l m h k;
    once = λ l.
        elim (cases_lt l (length lists)) [
          | inl within ↦ chain_is_distinct t l (head_node l) (list_at lists l) (r.rings l within)
          | inr past ↦ subst (λ (xs : List ℕ). IsDistinct eqb xs) (sym (get_or_past lists l [] past)) nothing_twice
        ];
  }

  -- what stands before and behind a page in its list is what it is joined with
  pub neighbours : (l p : ℕ) (before after : List ℕ) → list_at lists l ≡ before ++ p ∷ after → IsJoined t (last_node l before) (page_node p) × IsJoined t (page_node p) (first_node l after)
  neighbours l p before after stands =
      let here : has (list_at lists l) p ≡ true =
      ap (λ (ps : List ℕ). has ps p) stands ∙ has_behind before (p ∷ after) p (has_first p after) in
      let ring = subst (λ (ps : List ℕ). IsChain t (head_node l) ps (head_node l)) stands (r.rings l (list_within lists l p here)) in
      let rest = chain_rest t (head_node l) (head_node l) before (p ∷ after) ring in
      (rest.0, first_is t l (page_node p) after rest.1)

  pub after_is : (p : ℕ) (link : Link) → link_at t (page_node p) ≡ Some link → IsAfter lists p (page_of link.next)
  after_is p link read l before after stands =
      ap page_of (sym (next_is t (page_node p) _ link read (neighbours l p before after stands).1)) ∙ first_page_is l after

  pub before_is : (p : ℕ) (link : Link) → link_at t (page_node p) ≡ Some link → IsBefore lists p (page_of link.prev)
  before_is p link read l before after stands =
      ap page_of (sym (prev_is t _ (page_node p) link read (neighbours l p before after stands).0))
      ∙ last_page_is (head_node l) before

-- ---- what the lists say is what is stored

link_by_parts : (a b : Link) → a.prev ≡ b.prev → a.next ≡ b.next → a ≡ b
link_by_parts a b prev next =
    ap (λ (n : RingNode). let link : Link = record { prev = n; next = a.next } in link) prev
    ∙ ap (λ (n : RingNode). let link : Link = record { prev = b.prev; next = n } in link) next

module _ {t : Links} {lists : List (List ℕ)} (r : IsRings t lists) where
  joined_link : (n a b : RingNode) (link : Link) → IsJoined t a n → IsJoined t n b → link.prev ≡ a → link.next ≡ b → link_at t n ≡ Some link
  joined_link n a b link before behind prev next = by_link (link_at t n) before.prev behind.next
    where
      by_link : (o : Option Link) → option_map (λ (k : Link). k.prev) o ≡ Some a → option_map (λ (k : Link). k.next) o ≡ Some b → o ≡ Some link
      by_link None h k = absurd (none-some a h)
      by_link (Some stored) h k =
          ap Some (link_by_parts stored link (same_Some _ _ h ∙ sym prev) (same_Some _ _ k ∙ sym next))

  pub read_link : (n : RingNode) (link : Link) → IsLinkOf lists n link → link_at t n ≡ Some link
  read_link (Page p) link is =
      let both = neighbours r is.list p.0 is.before is.after is.stands in
      joined_link (Page p) _ _ link both.0 both.1 is.prev is.next
  read_link (Head l) link is =
      let ring = r.rings l.0 is.within in
      joined_link (Head l) _ _ link (last_is t (head_node l.0) (head_node l.0) (list_at lists l.0) ring) (first_is t l.0 (head_node l.0) (list_at lists l.0) ring) is.prev is.next

-- where a node's link stays, the lists say so
pub link_kept : {old new : Links} {before after : List (List ℕ)} → IsRings old before → IsRings new after → (n : RingNode) → link_at new n ≡ link_at old n → (link : Link) → IsLinkOf before n link → IsLinkOf after n link
link_kept r s n same link is = some_link s n link (same ∙ read_link r n link is)
