-- How single writes of links make up the changes that keep rings.
use Rattle.std.proofs.Common.{◌≡◌, ◌≢◌, true, Option, Some, None, is_some, refl, sym, ap, subst, ◌∙◌}
use Rattle.std.proofs.lemmas.Option.{same_Some, none-some}
use Rattle.std.specs.Prelude.{option_map}
use Rattle.rings.specs.declared.ring_node.RingNode.{RingNode}
use Rattle.rings.specs.declared.ring_node.Link.{Link}
use Rattle.rings.specs.declared.links.Links.{Links}
use Rattle.rings.specs.Links.{link_at, next_of, prev_of, IsJoined, SameSize, WritesLink, SetsNext, SetsPrev, Joins, Adds, Splices}

same_size : {a b c d : Links} → SameSize a b → SameSize b c → SameSize c d → SameSize a d
same_size ab bc cd = record { pages = cd.pages ∙ bc.pages ∙ ab.pages; heads = cd.heads ∙ bc.heads ∙ ab.heads; room = cd.room ∙ bc.room ∙ ab.room }

-- a node has one successor, and one predecessor
pub same_next : (t : Links) (a a' b b' : RingNode) → a ≡ a' → IsJoined t a b → IsJoined t a' b' → b ≡ b'
same_next t a a' b b' same h k = same_Some b b' (sym h.next ∙ ap (next_of t) same ∙ k.next)

pub same_prev : (t : Links) (a a' b b' : RingNode) → b ≡ b' → IsJoined t a b → IsJoined t a' b' → a ≡ a'
same_prev t a a' b b' same h k = same_Some a a' (sym h.prev ∙ ap (prev_of t) same ∙ k.prev)

-- what is joined has a link
module _ (t : Links) (a b : RingNode) (h : IsJoined t a b) where
  some_mapped : (f : Link → RingNode) (o : Option Link) (n : RingNode) → option_map f o ≡ Some n → is_some o ≡ true
  some_mapped f None n is = absurd (none-some n is)
  some_mapped f (Some link) n is = refl

  pub first_there : is_some (link_at t a) ≡ true
  first_there = some_mapped (λ (link : Link). link.next) (link_at t a) b h.next

  pub second_there : is_some (link_at t b) ≡ true
  second_there = some_mapped (λ (link : Link). link.prev) (link_at t b) a h.prev

-- what a link says is what the node is joined with
pub prev_is : (t : Links) (a b : RingNode) (link : Link) → link_at t b ≡ Some link → IsJoined t a b → a ≡ link.prev
prev_is t a b link read h = same_Some a link.prev (sym h.prev ∙ ap (option_map (λ (link : Link). link.prev)) read)

pub next_is : (t : Links) (a b : RingNode) (link : Link) → link_at t a ≡ Some link → IsJoined t a b → b ≡ link.next
next_is t a b link read h = same_Some b link.next (sym h.next ∙ ap (option_map (λ (link : Link). link.next)) read)

-- a node with no link is joined to none
pub unlinked_next : (t : Links) (n a b : RingNode) → link_at t n ≡ None → IsJoined t a b → a ≢ n
unlinked_next t n a b out h same =
    none-some b (sym (ap (option_map (λ (link : Link). link.next)) out) ∙ sym (ap (next_of t) same) ∙ h.next)

pub unlinked_prev : (t : Links) (n a b : RingNode) → link_at t n ≡ None → IsJoined t a b → b ≢ n
unlinked_prev t n a b out h same =
    none-some a (sym (ap (option_map (λ (link : Link). link.prev)) out) ∙ sym (ap (prev_of t) same) ∙ h.prev)

-- a link is written for a page, and then its two neighbours learn of it
pub adds : (old t1 t2 new : Links) (page node last : RingNode) → link_at old page ≡ None → IsJoined old last node → WritesLink old t1 page (Some (record { prev = last; next = node })) → SetsNext t1 t2 last page → SetsPrev t2 new node page → Adds old new page node
adds old t1 t2 new page node last out ring put to_next to_prev =
    let not_node : page ≢ node = λ same. unlinked_prev old page last node out ring (sym same) in
    let not_last : page ≢ last = λ same. unlinked_next old page last node out ring (sym same) in
    let ahead : next_of t1 page ≡ Some node = ap (option_map (λ (link : Link). link.next)) put.changed in
    let aback : prev_of t1 page ≡ Some last = ap (option_map (λ (link : Link). link.prev)) put.changed in
    let behind_last : IsJoined new last page = record {
      next = to_prev.nexts last ∙ to_next.changed;
      prev = to_prev.prevs page not_node ∙ to_next.prevs page ∙ aback;
    } in
    record {
      behind = λ a h. subst (λ (n : RingNode). IsJoined new n page) (same_prev old last a node node refl ring h) behind_last;
      before = record { next = to_prev.nexts page ∙ to_next.nexts page not_last ∙ ahead; prev = to_prev.changed };
      others = λ a b h apart.
          let a_other : a ≢ last = λ same. apart (same_next old a last b node same h ring) in
          let a_kept = ap (option_map (λ (link : Link). link.next)) (put.others a (unlinked_next old page a b out h)) in
          let b_kept = ap (option_map (λ (link : Link). link.prev)) (put.others b (unlinked_prev old page a b out h)) in
          record {
            next = to_prev.nexts a ∙ to_next.nexts a a_other ∙ a_kept ∙ h.next;
            prev = to_prev.prevs b apart ∙ to_next.prevs b ∙ b_kept ∙ h.prev;
          };
      few = λ n not_page other lone.
          let not_last_node : n ≢ last = λ same. lone (subst (λ (m : RingNode). IsJoined old m node) (sym same) ring) in
          to_prev.others n other ∙ to_next.others n not_last_node ∙ put.others n not_page;
      there = λ n apart. to_prev.there n ∙ to_next.there n ∙ ap is_some (put.others n apart);
      size = same_size put.size to_next.size to_prev.size;
    }

-- the node before is joined with what was first in the source, what was last there with the node after, and the source's head with itself
pub splices : (old t1 t2 new : Links) (source before after first last : RingNode) → before ≢ source → after ≢ source → last ≢ source → first ≢ source → IsJoined old before after → IsJoined old last source → IsJoined old source first → Joins old t1 before first → Joins t1 t2 last after → Joins t2 new source source → Splices old new source before after
splices old t1 t2 new source before after first last before_source after_source last_source first_source gap ends starts j1 j2 j3 =
    let before_last : before ≢ last = λ same. after_source (same_next old before last after source same gap ends) in
    let first_after : first ≢ after = λ same. before_source (sym (same_prev old source before first after same starts gap)) in
    let in_front : IsJoined new before first = record {
      next = j3.nexts before before_source ∙ j2.nexts before before_last ∙ j1.next;
      prev = j3.prevs first first_source ∙ j2.prevs first first_after ∙ j1.prev;
    } in
    let behind : IsJoined new last after = record {
      next = j3.nexts last last_source ∙ j2.next;
      prev = j3.prevs after after_source ∙ j2.prev;
    } in
    record {
      front = λ a b h k.
          subst (λ (n : RingNode). IsJoined new n b) (same_prev old before a after after refl gap h)
          (subst (λ (n : RingNode). IsJoined new before n) (same_next old source source first b refl starts k) in_front);
      back = λ a b h k.
          subst (λ (n : RingNode). IsJoined new n b) (same_prev old last a source source refl ends h)
          (subst (λ (n : RingNode). IsJoined new last n) (same_next old before before after b refl gap k) behind);
      emptied = record { next = j3.next; prev = j3.prev };
      others = λ a b h a_source b_source a_before.
          let a_last : a ≢ last = λ same. b_source (same_next old a last b source same h ends) in
          let b_after : b ≢ after = λ same. a_before (same_prev old a before b after same h gap) in
          let b_first : b ≢ first = λ same. a_source (same_prev old a source b first same h starts) in
          record {
            next = j3.nexts a a_source ∙ j2.nexts a a_last ∙ j1.nexts a a_before ∙ h.next;
            prev = j3.prevs b b_source ∙ j2.prevs b b_after ∙ j1.prevs b b_first ∙ h.prev;
          };
      few = λ n not_source not_before not_after not_last not_first.
          let n_last : n ≢ last = λ same. not_last (subst (λ (m : RingNode). IsJoined old m source) (sym same) ends) in
          let n_first : n ≢ first = λ same. not_first (subst (λ (m : RingNode). IsJoined old source m) (sym same) starts) in
          j3.others n not_source not_source ∙ j2.others n n_last not_after ∙ j1.others n not_before n_first;
      there = λ n. j3.there n ∙ j2.there n ∙ j1.there n;
      size = same_size j1.size j2.size j3.size;
    }
