-- The lists that links see are those of the generations.
use Rattle.std.proofs.Common.{◌≡◌, ◌≢◌, ℕ, zero, suc, ◌+◌, ◌*◌, ◌%◌, ◌<◌, ◌≤◌, List, [], ◌∷◌, ◌++◌, length, map, filter, eqb, refl, sym, ap, subst, ◌∙◌, arith, inl, inr}
use Rattle.std.proofs.lemmas.List.{map-append, append-nil, ext_get_or}
use Rattle.std.proofs.lemmas.List.Elements.{filter-append}
use Rattle.std.proofs.lemmas.Bool.{cases_eq, eq-eqb, ne_eqb}
use Rattle.machine.specs.declared.record.Kind.{Kind}
use Rattle.machine.specs.declared.record.Kind.TheVariants.{Anon, File}
use Rattle.machine.specs.Generations.{Listed, of_kind}
use Rattle.rings.specs.declared.ring_node.Link.{Link}
use Rattle.rings.specs.declared.ring_node.RingNode.{RingNode}
use Rattle.rings.specs.RingNodes.{head_node}
use Rattle.rings.specs.Rings.{list_at, last_node, IsLinkOf, KeepsLinksBut}
use Rattle.lru_gen.specs.declared.numbers.Numbers.{Numbers}
use Rattle.lru_gen.specs.Lists.{slot, on_turn, lists_of, KeepsLinksOfMerge}
use Rattle.lru_gen.specs.Rows.{in_seq, rows_from, groups_from, IsTable}
use Rattle.lru_gen.proofs.SlotLemmas.{in_turn}

-- ---- the pages of one turn

turn_append : (xs ys : List Listed) (r : ℕ) → on_turn (xs ++ ys) r ≡ on_turn xs r ++ on_turn ys r
turn_append xs ys r =
    ap (map (λ (l : Listed). l.page)) (filter-append (λ (l : Listed). eqb (l.seq % 4) r) xs ys)
    ∙ map-append (λ (l : Listed). l.page) (filter (λ (l : Listed). eqb (l.seq % 4) r) xs) (filter (λ (l : Listed). eqb (l.seq % 4) r) ys)

its_turn : (q r : ℕ) (ps : List ℕ) → q % 4 ≡ r → on_turn (map (in_seq q) ps) r ≡ ps
its_turn q r [] same = refl
its_turn q r (p ∷ ps) same = rw (eq-eqb (q % 4) r same) (ap (λ (rs : List ℕ). p ∷ rs) (its_turn q r ps same))

other_turn : (q r : ℕ) (ps : List ℕ) → q % 4 ≢ r → on_turn (map (in_seq q) ps) r ≡ []
other_turn q r [] apart = refl
other_turn q r (p ∷ ps) apart = rw (ne_eqb (q % 4) r apart) (other_turn q r ps apart)

module _ (lists : List (List ℕ)) (g : ℕ) (k : Kind) where
  none_of_turn : (q n r : ℕ) → ((s : ℕ) → q ≤ s → s < q + n → s % 4 ≢ r) → on_turn (rows_from lists g k q n) r ≡ []
  unfolding rows_from
  none_of_turn q zero r apart = refl
  none_of_turn q (suc n) r apart =
      let here = list_at lists (slot g k q) in
      turn_append (map (in_seq q) here) (rows_from lists g k (q + 1) n) r
      ∙ ap (λ (ps : List ℕ). ps ++ on_turn (rows_from lists g k (q + 1) n) r) (other_turn q r here (apart q (omega arith) (omega arith)))
      ∙ none_of_turn (q + 1) n r (λ s low high. apart s (omega arith) (omega arith))

  one_of_turn : (q n s : ℕ) → n ≤ 4 → q ≤ s → s < q + n → on_turn (rows_from lists g k q n) (s % 4) ≡ list_at lists (slot g k s)
  unfolding rows_from
  one_of_turn q zero s few low high = absurd (omega arith)
  one_of_turn q (suc n) s few low high =
      let here = list_at lists (slot g k q) in
      let rest = rows_from lists g k (q + 1) n in
      turn_append (map (in_seq q) here) rest (s % 4)
      ∙ elim (cases_eq q s) [
        | inl same ↦
            ap (λ (ps : List ℕ). ps ++ on_turn rest (s % 4)) (its_turn q (s % 4) here (ap (λ (i : ℕ). i % 4) same))
            ∙ ap (λ (ps : List ℕ). here ++ ps) (none_of_turn (q + 1) n (s % 4) (λ t from to e. omega arith))
            ∙ append-nil here
            ∙ ap (λ (i : ℕ). list_at lists (slot g k i)) same
        | inr other ↦
            ap (λ (ps : List ℕ). ps ++ on_turn rest (s % 4)) (other_turn q (s % 4) here (λ e. omega arith))
            ∙ one_of_turn (q + 1) n s (omega arith) (omega arith) (omega arith)
      ]

  turn_is : (q r l : ℕ) → r < 4 → l ≡ g * 8 + of_kind k 0 4 + r → on_turn (rows_from lists g k q 4) r ≡ list_at lists l
  turn_is q r l small at =
      let turn = in_turn q r in
      let same : r ≡ turn.seq % 4 = omega (arith, turn.same) in
      let there : slot g k turn.seq ≡ l = omega arith in
      ap (on_turn (rows_from lists g k q 4)) same
      ∙ one_of_turn q 4 turn.seq (omega arith) turn.low turn.high
      ∙ ap (λ (i : ℕ). list_at lists i) there

-- ---- all lists

look_up : (lists : List (List ℕ)) (g : ℕ) (numbers : List Numbers) (i : ℕ) → i < length numbers * 8 → list_at (lists_of (groups_from lists g numbers)) i ≡ list_at lists (g * 8 + i)
look_up lists g [] i within = absurd (omega arith)
look_up lists g (n ∷ more) zero within = turn_is lists g Anon n.anon_min_seq 0 (g * 8 + 0) (omega arith) (omega arith)
look_up lists g (n ∷ more) (suc zero) within = turn_is lists g Anon n.anon_min_seq 1 (g * 8 + 1) (omega arith) (omega arith)
look_up lists g (n ∷ more) (suc (suc zero)) within = turn_is lists g Anon n.anon_min_seq 2 (g * 8 + 2) (omega arith) (omega arith)
look_up lists g (n ∷ more) (suc (suc (suc zero))) within = turn_is lists g Anon n.anon_min_seq 3 (g * 8 + 3) (omega arith) (omega arith)
look_up lists g (n ∷ more) (suc (suc (suc (suc zero)))) within = turn_is lists g File n.file_min_seq 0 (g * 8 + 4) (omega arith) (omega arith)
look_up lists g (n ∷ more) (suc (suc (suc (suc (suc zero))))) within = turn_is lists g File n.file_min_seq 1 (g * 8 + 5) (omega arith) (omega arith)
look_up lists g (n ∷ more) (suc (suc (suc (suc (suc (suc zero)))))) within = turn_is lists g File n.file_min_seq 2 (g * 8 + 6) (omega arith) (omega arith)
look_up lists g (n ∷ more) (suc (suc (suc (suc (suc (suc (suc zero))))))) within = turn_is lists g File n.file_min_seq 3 (g * 8 + 7) (omega arith) (omega arith)
look_up lists g (n ∷ more) (suc (suc (suc (suc (suc (suc (suc (suc i)))))))) within =
    let at : (g + 1) * 8 + i ≡ g * 8 + suc (suc (suc (suc (suc (suc (suc (suc i))))))) = omega arith in
    look_up lists (g + 1) more i (omega arith) ∙ ap (λ (l : ℕ). list_at lists l) at

eight_each : (lists : List (List ℕ)) (g : ℕ) (numbers : List Numbers) → length (lists_of (groups_from lists g numbers)) ≡ length numbers * 8
eight_each lists g [] = refl
eight_each lists g (n ∷ more) = let rest = eight_each lists (g + 1) more in omega arith

-- from the rows of all groups the lists can be told
pub lists_told : (lists : List (List ℕ)) (numbers : List Numbers) → IsTable lists numbers → lists ≡ lists_of (groups_from lists 0 numbers)
lists_told lists numbers is =
    let many = eight_each lists 0 numbers in
    ext_get_or [] lists (lists_of (groups_from lists 0 numbers)) (is.count ∙ sym many) (λ i inside.
    let at : i ≡ 0 * 8 + i = omega arith in
    ap (λ (l : ℕ). list_at lists l) at ∙ sym (look_up lists 0 numbers i (omega (arith, is.count))))

-- ---- which links change

pub few_of_add : (page : RingNode) {l m : ℕ} {a b c d : List (List ℕ)} → l ≡ m → a ≡ b → c ≡ d → KeepsLinksBut (page ∷ head_node l ∷ last_node l (list_at a l) ∷ []) a c → KeepsLinksBut (page ∷ head_node m ∷ last_node m (list_at b m) ∷ []) b d
few_of_add page {l} {m} {a} {b} {c} {d} list old new few =
    subst (λ (x : ℕ). KeepsLinksBut (page ∷ head_node x ∷ last_node x (list_at b x) ∷ []) b d) list
    (subst (λ (ls : List (List ℕ)). KeepsLinksBut (page ∷ head_node l ∷ last_node l (list_at ls l) ∷ []) ls d) old
    (subst (λ (ls : List (List ℕ)). KeepsLinksBut (page ∷ head_node l ∷ last_node l (list_at a l) ∷ []) a ls) new few))

pub few_of_isolate : (page : RingNode) {a b c d : List (List ℕ)} → a ≡ b → c ≡ d → ((link : Link) → IsLinkOf a page link → KeepsLinksBut (page ∷ link.prev ∷ link.next ∷ []) a c) → (link : Link) → IsLinkOf b page link → KeepsLinksBut (page ∷ link.prev ∷ link.next ∷ []) b d
few_of_isolate page {a} {b} {c} {d} old new few link is =
    subst (λ (ls : List (List ℕ)). KeepsLinksBut (page ∷ link.prev ∷ link.next ∷ []) ls d) old
    (subst (λ (ls : List (List ℕ)). KeepsLinksBut (page ∷ link.prev ∷ link.next ∷ []) a ls) new
    (few link (subst (λ (ls : List (List ℕ)). IsLinkOf ls page link) (sym old) is)))

pub few_of_merge : {l m k n : ℕ} {a b c d : List (List ℕ)} → l ≡ m → k ≡ n → a ≡ b → c ≡ d → KeepsLinksOfMerge a c l k → KeepsLinksOfMerge b d m n
few_of_merge {l} {m} {k} {n} {a} {b} {c} {d} source target old new few =
    subst (λ (x : ℕ). KeepsLinksOfMerge b d x n) source
    (subst (λ (x : ℕ). KeepsLinksOfMerge b d l x) target
    (subst (λ (ls : List (List ℕ)). KeepsLinksOfMerge ls d l k) old
    (subst (λ (ls : List (List ℕ)). KeepsLinksOfMerge a ls l k) new few)))
