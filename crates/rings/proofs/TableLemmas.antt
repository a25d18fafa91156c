-- The tables of links as they begin and as they grow.
use Rattle.std.proofs.Common.{◌≡◌, ℕ, zero, suc, ◌+◌, ◌<◌, true, false, List, [], ◌∷◌, ◌++◌, length, get_or, replicate, Option, Some, None, is_some, slice_get, refl, sym, ap, subst, ◌∙◌, inl, inr, arith}
use Rattle.std.proofs.lemmas.Bool.{false≢true, cases_lt}
use Rattle.std.proofs.lemmas.List.{get_or-replicate, get_or_past, get_or_append_left, get_or_push, length_push, length-replicate}
use Rattle.std.proofs.lemmas.Option.{none-some}
use Rattle.std.specs.Prelude.{option_map}
use Rattle.rings.specs.declared.ring_node.RingNode.{RingNode}
use Rattle.rings.specs.declared.ring_node.RingNode.TheVariants.{Page, Head}
use Rattle.rings.specs.declared.ring_node.Link.{Link}
use Rattle.rings.specs.declared.links.Links.{Links}
use Rattle.rings.specs.RingNodes.{page_node, head_node}
use Rattle.rings.specs.Rings.{RingsOf, list_at}
use Rattle.rings.specs.Links.{link_at, next_of, prev_of, IsJoined}
use Rattle.rings.specs.Chains.{IsChain, IsRings}
use Rattle.rings.proofs.ListLemmas.{list_within}
use Rattle.rings.proofs.RingLemmas.{chain_stays}

-- no page has a link, and there is no list
pub no_rings : (t : Links) (n : ℕ) → n < 2147483648 → t.pages.items ≡ replicate n None → t.heads.items ≡ [] → IsRings t []
no_rings t n fits pages heads =
    record {
      countable = record {
        pages = omega (arith, ap length pages, length-replicate n (let o : Option Link = None in o));
        heads = omega (arith, ap length heads);
      };
      count = sym (ap length heads);
      rings = λ l within. absurd (omega arith);
      listed = λ p linked. absurd (false≢true (sym (unlinked p) ∙ linked));
    }
  where
    empty : (p : ℕ) → is_some (get_or (replicate n (let o : Option Link = None in o)) p None) ≡ false
    empty p =
        elim (cases_lt p n) [
          | inl within ↦ ap is_some (get_or-replicate n p None None within)
          | inr past ↦ ap is_some (get_or_past (replicate n None) p None (omega (arith, length-replicate n (let o : Option Link = None in o))))
        ]

    unlinked : (p : ℕ) → is_some (link_at t (page_node p)) ≡ false
    unlinked p = ap (λ (items : List (Option Link)). is_some (get_or items p None)) pages ∙ empty p

module _ (old new : Links) (pages : new.pages.items ≡ old.pages.items) where
  page_same : (p : ℕ) → link_at new (page_node p) ≡ link_at old (page_node p)
  page_same p = ap (λ (items : List (Option Link)). get_or items p None) pages

  -- where every link that is there stays, what is joined stays joined
  joined_stays : ((n : RingNode) → is_some (link_at old n) ≡ true → link_at new n ≡ link_at old n) → (a b : RingNode) → IsJoined old a b → IsJoined new a b
  joined_stays same a b k = record {
    next = by_next (link_at old a) (same a) k.next;
    prev = by_prev (link_at old b) (same b) k.prev;
  }
    where
      by_next : (o : Option Link) → (is_some o ≡ true → link_at new a ≡ o) → option_map (λ (link : Link). link.next) o ≡ Some b → next_of new a ≡ Some b
      by_next None keeps h = absurd (none-some b h)
      by_next (Some link) keeps h = ap (option_map (λ (link : Link). link.next)) (keeps refl) ∙ h

      by_prev : (o : Option Link) → (is_some o ≡ true → link_at new b ≡ o) → option_map (λ (link : Link). link.prev) o ≡ Some a → prev_of new b ≡ Some a
      by_prev None keeps h = absurd (none-some a h)
      by_prev (Some link) keeps h = ap (option_map (λ (link : Link). link.prev)) (keeps refl) ∙ h

  stays : ((n : RingNode) → is_some (link_at old n) ≡ true → link_at new n ≡ link_at old n) → (l : ℕ) (xs : List ℕ) → IsChain old (head_node l) xs (head_node l) → IsChain new (head_node l) xs (head_node l)
  stays same l xs k =
      chain_stays old new (λ _. Unit {0}) (λ _. tt) (λ a _ p h. joined_stays same a (page_node p) h) (head_node l) (head_node l) (λ a _ h. joined_stays same a (head_node l) h) (head_node l) xs tt k

  -- tables with the same links stand for the same lists
  pub same_rings : new.heads.items ≡ old.heads.items → (lists : List (List ℕ)) → IsRings old lists → IsRings new lists
  same_rings heads lists r = record {
    countable = record {
      pages = subst (λ (items : List (Option Link)). length items < 2147483648) (sym pages) r.countable.pages;
      heads = subst (λ (items : List Link). length items < 2147483648) (sym heads) r.countable.heads;
    };
    count = r.count ∙ sym (ap length heads);
    rings = λ l within. stays same_link l (list_at lists l) (r.rings l within);
    listed = λ p linked. r.listed p (sym (ap is_some (page_same p)) ∙ linked);
  }
    where
      same_link : (n : RingNode) → is_some (link_at old n) ≡ true → link_at new n ≡ link_at old n
      same_link (Page p) there = page_same p.0
      same_link (Head l) there = ap (λ (items : List Link). slice_get items l.0) heads

slice_get_front : (xs ys : List Link) (i : ℕ) → is_some (slice_get xs i) ≡ true → slice_get (xs ++ ys) i ≡ slice_get xs i
slice_get_front [] ys i there = absurd (false≢true there)
slice_get_front (x ∷ xs) ys zero there = refl
slice_get_front (x ∷ xs) ys (suc i) there = slice_get_front xs ys i there

slice_get_next : (xs : List Link) (y : Link) (i : ℕ) → i ≡ length xs → slice_get (xs ++ y ∷ []) i ≡ Some y
slice_get_next [] y i at = ap (slice_get (y ∷ [])) at
slice_get_next (x ∷ xs) y i at =
    ap (slice_get (x ∷ (xs ++ y ∷ []))) at ∙ slice_get_next xs y (length xs) refl

-- one head more, linked with itself, is one empty list more
pub one_more : (old new : Links) (lists : List (List ℕ)) (n : ℕ) → length lists + 1 < 2147483648 → new.pages.items ≡ old.pages.items → n ≡ length old.heads.items → new.heads.items ≡ old.heads.items ++ record { prev = head_node n; next = head_node n } ∷ [] → IsRings old lists → IsRings new (lists ++ [] ∷ [])
one_more old new lists n fits pages number heads r =
    record {
      countable = record {
        pages = subst (λ (items : List (Option Link)). length items < 2147483648) (sym pages) r.countable.pages;
        heads = omega (arith, ap length heads, length_push old.heads.items alone, r.count);
      };
      count = length_push lists [] ∙ ap (λ (k : ℕ). k + 1) r.count ∙ sym (ap length heads ∙ length_push old.heads.items alone);
      rings = λ l within.
          elim (cases_lt l (length lists)) [
            | inl inside ↦ rw (get_or_append_left lists ([] ∷ []) [] l inside) (stays old new pages same_link l (list_at lists l) (r.rings l inside))
            | inr past ↦
                let at : length lists ≡ l = omega (arith, length_push lists (let none : List ℕ = [] in none)) in
                rw (get_or_push lists [] [] l at) (itself l (sym at ∙ r.count))
          ];
      listed = λ p linked.
          let found = r.listed p (sym (ap is_some (page_same old new pages p)) ∙ linked) in
          (found.0, rw (get_or_append_left lists ([] ∷ []) [] found.0 (list_within lists found.0 p found.1)) found.1);
    }
  where
    alone : Link
    alone = record { prev = head_node n; next = head_node n }

    same_link : (n : RingNode) → is_some (link_at old n) ≡ true → link_at new n ≡ link_at old n
    same_link (Page p) there = page_same old new pages p.0
    same_link (Head l) there = ap (λ (items : List Link). slice_get items l.0) heads ∙ slice_get_front old.heads.items (alone ∷ []) l.0 there

    itself : (l : ℕ) → l ≡ length old.heads.items → IsJoined new (head_node l) (head_node l)
    itself l at =
        let read : link_at new (head_node l) ≡ Some alone =
        ap (λ (items : List Link). slice_get items l) heads ∙ slice_get_next old.heads.items alone l at in
        let here : n ≡ l = number ∙ sym at in
        record {
          next = ap (option_map (λ (link : Link). link.next)) read ∙ ap (λ (k : ℕ). Some (head_node k)) here;
          prev = ap (option_map (λ (link : Link). link.prev)) read ∙ ap (λ (k : ℕ). Some (head_node k)) here;
        }

-- a value by its parts
pub same_value : (lists found : List (List ℕ)) (numbers many room : ℕ) → found ≡ lists → many ≡ numbers → ◌≡◌ {A = RingsOf} (record { lists = found; numbers = many; room = room }) (record { lists = lists; numbers = numbers; room = room })
same_value lists found numbers many room same_lists same_numbers = cc
