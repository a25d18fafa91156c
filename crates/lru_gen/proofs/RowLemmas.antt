-- Rows of pages by rising number, and the lists that they are read from.
use Rattle.std.proofs.Common.{◌≡◌, ◌≢◌, ℕ, zero, suc, ◌+◌, ◌<◌, ◌≤◌, Bool, true, false, not, nat_le, nat_lt, max, List, [], ◌∷◌, ◌++◌, map, filter, eqb, None, slice_get, refl, sym, ap, ◌∙◌, arith, append_assoc, inl, inr}
use Rattle.std.proofs.lemmas.List.{map-append, append-nil}
use Rattle.std.proofs.lemmas.List.Elements.{filter-append}
use Rattle.std.proofs.lemmas.Bool.{cases_eq, le-leb, lt-leb, lt-ltb, le-ltb, ne_eqb, eq-eqb}
use Rattle.rings.specs.Rings.{list_at, without}
use Rattle.machine.specs.declared.record.Kind.{Kind}
use Rattle.machine.specs.Generations.{Listed, at_seq, taken_in, first_at}
use Rattle.machine.specs.Eviction.{is_old, old_of}
use Rattle.lru_gen.specs.Lists.{slot}
use Rattle.lru_gen.specs.Rows.{in_seq, rows_from}

module _ (g : ℕ) (kind : Kind) where
  -- rows are read from the lists of their own numbers alone
  pub rows_same : (old new : List (List ℕ)) (seq n : ℕ) → ((s : ℕ) → seq ≤ s → s < seq + n → list_at new (slot g kind s) ≡ list_at old (slot g kind s)) → rows_from new g kind seq n ≡ rows_from old g kind seq n
  unfolding rows_from
  rows_same old new seq zero same = refl
  rows_same old new seq (suc n) same =
      let first = same seq (omega arith) (omega arith) in
      let rest = rows_same old new (seq + 1) n (λ s low high. same s (omega arith) (omega arith)) in
      ap (λ (ps : List ℕ). map (in_seq seq) ps ++ rows_from new g kind (seq + 1) n) first
      ∙ ap (λ (rs : List Listed). map (in_seq seq) (list_at old (slot g kind seq)) ++ rs) rest

  -- one number more, whose list is empty, adds no row
  pub rows_more : (lists : List (List ℕ)) (seq n : ℕ) → list_at lists (slot g kind (seq + n)) ≡ [] → rows_from lists g kind seq (n + 1) ≡ rows_from lists g kind seq n
  unfolding rows_from
  rows_more lists seq zero none =
      let at : seq ≡ seq + 0 = omega arith in
      ap (λ (ps : List ℕ). map (in_seq seq) ps ++ []) (ap (λ (s : ℕ). list_at lists (slot g kind s)) at ∙ none)
  rows_more lists seq (suc n) none =
      let many : suc n + 1 ≡ suc (n + 1) = omega arith in
      let at : seq + 1 + n ≡ seq + suc n = omega arith in
      ap (rows_from lists g kind seq) many
      ∙ ap (λ (rs : List Listed). map (in_seq seq) (list_at lists (slot g kind seq)) ++ rs) (rows_more lists (seq + 1) n (ap (λ (s : ℕ). list_at lists (slot g kind s)) at ∙ none))

  -- the oldest number less, whose list is empty, takes no row
  pub rows_less : (lists : List (List ℕ)) (seq n : ℕ) → list_at lists (slot g kind seq) ≡ [] → rows_from lists g kind (seq + 1) n ≡ rows_from lists g kind seq (suc n)
  unfolding rows_from
  rows_less lists seq n none = ap (λ (ps : List ℕ). map (in_seq seq) ps ++ rows_from lists g kind (seq + 1) n) (sym none)

  -- the rows of some numbers, and then those of the others
  pub rows_split : (lists : List (List ℕ)) (seq m n : ℕ) → rows_from lists g kind seq (m + n) ≡ rows_from lists g kind seq m ++ rows_from lists g kind (seq + m) n
  unfolding rows_from
  rows_split lists seq zero n =
      let at : seq ≡ seq + 0 = omega arith in
      let many : 0 + n ≡ n = omega arith in
      ap (rows_from lists g kind seq) many ∙ ap (λ (s : ℕ). rows_from lists g kind s n) at
  rows_split lists seq (suc m) n =
      let many : suc m + n ≡ suc (m + n) = omega arith in
      let at : seq + 1 + m ≡ seq + suc m = omega arith in
      let first = map (in_seq seq) (list_at lists (slot g kind seq)) in
      ap (rows_from lists g kind seq) many
      ∙ ap (λ (rs : List Listed). first ++ rs) (rows_split lists (seq + 1) m n)
      ∙ ap (λ (s : ℕ). first ++ (rows_from lists g kind (seq + 1) m ++ rows_from lists g kind s n)) at
      ∙ sym (append_assoc first (rows_from lists g kind (seq + 1) m) (rows_from lists g kind (seq + suc m) n))

  -- ---- without a page

  filter_rows : (p seq : ℕ) (ps : List ℕ) → filter (λ (l : Listed). not (eqb l.page p)) (map (in_seq seq) ps) ≡ map (in_seq seq) (without p ps)
  filter_rows p seq [] = refl
  filter_rows p seq (q ∷ ps) =
      elim (cases_eq p q) [
        | inl same ↦ rw (eq-eqb p q same, eq-eqb q p (sym same)) (filter_rows p seq ps)
        | inr other ↦
            rw (ne_eqb p q other, ne_eqb q p (λ same. other (sym same))) (ap (λ (rs : List Listed). in_seq seq q ∷ rs) (filter_rows p seq ps))
      ]

  pub rows_without : (old new : List (List ℕ)) (p seq n : ℕ) → ((l : ℕ) → list_at new l ≡ without p (list_at old l)) → rows_from new g kind seq n ≡ filter (λ (l : Listed). not (eqb l.page p)) (rows_from old g kind seq n)
  unfolding rows_from
  rows_without old new p seq zero loses = refl
  rows_without old new p seq (suc n) loses =
      let l = slot g kind seq in
      rw (filter-append (λ (l : Listed). not (eqb l.page p)) (map (in_seq seq) (list_at old l)) (rows_from old g kind (seq + 1) n), filter_rows p seq (list_at old l), ← loses l, ← rows_without old new p (seq + 1) n loses)

  -- ---- with a page more

  filter_all : (test : Listed → Bool) (seq : ℕ) → ((p : ℕ) → test (in_seq seq p) ≡ true) → (ps : List ℕ) → filter test (map (in_seq seq) ps) ≡ map (in_seq seq) ps
  filter_all test seq pass [] = refl
  filter_all test seq pass (p ∷ ps) = rw (pass p) (ap (λ (rs : List Listed). in_seq seq p ∷ rs) (filter_all test seq pass ps))

  filter_none : (test : Listed → Bool) (seq : ℕ) → ((p : ℕ) → test (in_seq seq p) ≡ false) → (ps : List ℕ) → filter test (map (in_seq seq) ps) ≡ []
  filter_none test seq fail [] = refl
  filter_none test seq fail (p ∷ ps) = rw (fail p) (filter_none test seq fail ps)

  -- rows of higher numbers
  none_up_to : (lists : List (List ℕ)) (top seq n : ℕ) → top < seq → filter (λ (l : Listed). nat_le l.seq top) (rows_from lists g kind seq n) ≡ []
  unfolding rows_from
  none_up_to lists top seq zero above = refl
  none_up_to lists top seq (suc n) above =
      rw (filter-append (λ (l : Listed). nat_le l.seq top) (map (in_seq seq) (list_at lists (slot g kind seq))) (rows_from lists g kind (seq + 1) n), filter_none (λ (l : Listed). nat_le l.seq top) seq (λ p. lt-leb seq top above) (list_at lists (slot g kind seq))) (none_up_to lists top (seq + 1) n (omega arith))

  all_above : (lists : List (List ℕ)) (top seq n : ℕ) → top < seq → filter (λ (l : Listed). nat_lt top l.seq) (rows_from lists g kind seq n) ≡ rows_from lists g kind seq n
  unfolding rows_from
  all_above lists top seq zero above = refl
  all_above lists top seq (suc n) above =
      rw (filter-append (λ (l : Listed). nat_lt top l.seq) (map (in_seq seq) (list_at lists (slot g kind seq))) (rows_from lists g kind (seq + 1) n), filter_all (λ (l : Listed). nat_lt top l.seq) seq (λ p. lt-ltb top seq above) (list_at lists (slot g kind seq)), all_above lists top (seq + 1) n (omega arith))

  map_pages : (seq : ℕ) (ls : List Listed) → map (in_seq seq) (map (λ (l : Listed). l.page) ls) ≡ map (at_seq seq) ls
  map_pages seq [] = refl
  map_pages seq (l ∷ ls) = ap (λ (rs : List Listed). in_seq seq l.page ∷ rs) (map_pages seq ls)

  -- pages come to the end of the list of one number
  pub rows_taken : (old new : List (List ℕ)) (more : List Listed) (top seq n : ℕ) → seq ≤ top → top < seq + n → list_at new (slot g kind top) ≡ list_at old (slot g kind top) ++ map (λ l. l.page) more → ((s : ℕ) → seq ≤ s → s < seq + n → s ≢ top → list_at new (slot g kind s) ≡ list_at old (slot g kind s)) → rows_from new g kind seq n ≡ taken_in top more (rows_from old g kind seq n)
  unfolding rows_from
  rows_taken old new more top seq zero low high at others = absurd (omega arith)
  rows_taken old new more top seq (suc n) low high at others =
      let below : Listed → Bool = λ l. nat_le l.seq top in
      let above : Listed → Bool = λ l. nat_lt top l.seq in
      let here = list_at old (slot g kind seq) in
      let first = map (in_seq seq) here in
      let rest = rows_from old g kind (seq + 1) n in
      let ps = map (λ (l : Listed). l.page) more in
      let all : filter below first ≡ first = filter_all below seq (λ q. le-leb seq top low) here in
      let none : filter above first ≡ [] = filter_none above seq (λ q. le-ltb top seq low) here in
      let split : taken_in top more (first ++ rest) ≡ (first ++ filter below rest) ++ (map (at_seq top) more ++ filter above rest) =
      rw (filter-append below first rest, filter-append above first rest, all, none) in
      elim (cases_eq seq top) [
        | inl same ↦
            let becomes : list_at new (slot g kind seq) ≡ here ++ ps =
            ap (λ (s : ℕ). list_at new (slot g kind s)) same ∙ at ∙ ap (λ (s : ℕ). list_at old (slot g kind s) ++ ps) (sym same) in
            let behind : rows_from new g kind (seq + 1) n ≡ rest =
            rows_same old new (seq + 1) n (λ s from to. others s (omega arith) (omega arith) (λ e. omega arith)) in
            let up : filter below rest ≡ [] = none_up_to old top (seq + 1) n (omega arith) in
            let over : filter above rest ≡ rest = all_above old top (seq + 1) n (omega arith) in
            ap (λ (qs : List ℕ). map (in_seq seq) qs ++ rows_from new g kind (seq + 1) n) becomes
            ∙ ap (λ (rs : List Listed). map (in_seq seq) (here ++ ps) ++ rs) behind
            ∙ ap (λ (rs : List Listed). rs ++ rest) (map-append (in_seq seq) here ps)
            ∙ append_assoc first (map (in_seq seq) ps) rest
            ∙ ap (λ (rs : List Listed). first ++ (rs ++ rest)) (map_pages seq more)
            ∙ ap (λ (s : ℕ). first ++ (map (at_seq s) more ++ rest)) same
            ∙ ap (λ (rs : List Listed). rs ++ (map (at_seq top) more ++ rest)) (sym (append-nil first))
            ∙ ap (λ (rs : List Listed). (first ++ rs) ++ (map (at_seq top) more ++ rest)) (sym up)
            ∙ ap (λ (rs : List Listed). (first ++ filter below rest) ++ (map (at_seq top) more ++ rs)) (sym over)
            ∙ sym split
        | inr apart ↦
            let stays : list_at new (slot g kind seq) ≡ here = others seq (omega arith) (omega arith) apart in
            let behind : rows_from new g kind (seq + 1) n ≡ taken_in top more rest =
            rows_taken old new more top (seq + 1) n (omega arith) (omega arith) at (λ s from to e. others s (omega arith) (omega arith) e) in
            ap (λ (qs : List ℕ). map (in_seq seq) qs ++ rows_from new g kind (seq + 1) n) stays
            ∙ ap (λ (rs : List Listed). first ++ rs) behind
            ∙ sym (append_assoc first (filter below rest) (map (at_seq top) more ++ filter above rest))
            ∙ sym split
      ]

  -- ---- the old pages

  -- rows of numbers below the two highest
  all_old : (lists : List (List ℕ)) (top seq n : ℕ) → seq + n < top → old_of top (rows_from lists g kind seq n) ≡ rows_from lists g kind seq n
  unfolding rows_from
  all_old lists top seq zero below = refl
  all_old lists top seq (suc n) below =
      rw (filter-append (is_old top) (map (in_seq seq) (list_at lists (slot g kind seq))) (rows_from lists g kind (seq + 1) n), filter_all (is_old top) seq (λ p. lt-ltb (seq + 1) top (omega arith)) (list_at lists (slot g kind seq)), all_old lists top (seq + 1) n (omega arith))

  -- rows of the two highest numbers, and of higher ones
  none_old : (lists : List (List ℕ)) (top seq n : ℕ) → top ≤ seq + 1 → old_of top (rows_from lists g kind seq n) ≡ []
  unfolding rows_from
  none_old lists top seq zero above = refl
  none_old lists top seq (suc n) above =
      rw (filter-append (is_old top) (map (in_seq seq) (list_at lists (slot g kind seq))) (rows_from lists g kind (seq + 1) n), filter_none (is_old top) seq (λ p. le-ltb (seq + 1) top above) (list_at lists (slot g kind seq))) (none_old lists top (seq + 1) n (omega arith))

  -- the old pages of a row are those of its numbers below the two highest
  pub rows_old : (lists : List (List ℕ)) (top seq m n : ℕ) → seq + m + 1 ≡ top → old_of top (rows_from lists g kind seq (m + n)) ≡ rows_from lists g kind seq m
  rows_old lists top seq m n two =
      ap (old_of top) (rows_split lists seq m n)
      ∙ filter-append (is_old top) (rows_from lists g kind seq m) (rows_from lists g kind (seq + m) n)
      ∙ ap (λ (rs : List Listed). rs ++ old_of top (rows_from lists g kind (seq + m) n)) (all_old lists top seq m (omega arith))
      ∙ ap (λ (rs : List Listed). rows_from lists g kind seq m ++ rs) (none_old lists top (seq + m) n (omega arith))
      ∙ append-nil (rows_from lists g kind seq m)

  -- ---- the oldest list in front of the next

  map_lifted : (least seq : ℕ) (ps : List ℕ) → map (λ (l : Listed). at_seq (max least l.seq) l) (map (in_seq seq) ps) ≡ map (in_seq (max least seq)) ps
  map_lifted least seq [] = refl
  map_lifted least seq (p ∷ ps) = ap (λ (rs : List Listed). in_seq (max least seq) p ∷ rs) (map_lifted least seq ps)

  lifted_keeps : (lists : List (List ℕ)) (least seq n : ℕ) → least ≤ seq → map (λ (l : Listed). at_seq (max least l.seq) l) (rows_from lists g kind seq n) ≡ rows_from lists g kind seq n
  unfolding rows_from
  lifted_keeps lists least seq zero low = refl
  lifted_keeps lists least seq (suc n) low =
      let same : max least seq ≡ seq = omega arith in
      rw (map-append (λ (l : Listed). at_seq (max least l.seq) l) (map (in_seq seq) (list_at lists (slot g kind seq))) (rows_from lists g kind (seq + 1) n), map_lifted least seq (list_at lists (slot g kind seq)), same, lifted_keeps lists least (seq + 1) n (omega arith))

  pub rows_merged : (old new : List (List ℕ)) (seq n : ℕ) → list_at new (slot g kind (seq + 1)) ≡ list_at old (slot g kind seq) ++ list_at old (slot g kind (seq + 1)) → ((s : ℕ) → seq + 2 ≤ s → s < seq + 2 + n → list_at new (slot g kind s) ≡ list_at old (slot g kind s)) → rows_from new g kind (seq + 1) (suc n) ≡ map (λ (l : Listed). at_seq (max (seq + 1) l.seq) l) (rows_from old g kind seq (suc (suc n)))
  unfolding rows_from
  rows_merged old new seq n both others =
      let here = list_at old (slot g kind seq) in
      let next = list_at old (slot g kind (seq + 1)) in
      let rest = rows_from old g kind (seq + 1 + 1) n in
      let to : Listed → Listed = λ l. at_seq (max (seq + 1) l.seq) l in
      let behind : rows_from new g kind (seq + 1 + 1) n ≡ rest =
      rows_same old new (seq + 1 + 1) n (λ s from up. others s (omega arith) (omega arith)) in
      let raised : max (seq + 1) seq ≡ seq + 1 = omega arith in
      let stays : max (seq + 1) (seq + 1) ≡ seq + 1 = omega arith in
      let first : map to (map (in_seq seq) here) ≡ map (in_seq (seq + 1)) here =
      map_lifted (seq + 1) seq here ∙ ap (λ (s : ℕ). map (in_seq s) here) raised in
      let second : map to (map (in_seq (seq + 1)) next) ≡ map (in_seq (seq + 1)) next =
      map_lifted (seq + 1) (seq + 1) next ∙ ap (λ (s : ℕ). map (in_seq s) next) stays in
      let last : map to rest ≡ rest = lifted_keeps old (seq + 1) (seq + 1 + 1) n (omega arith) in
      ap (λ (ps : List ℕ). map (in_seq (seq + 1)) ps ++ rows_from new g kind (seq + 1 + 1) n) both
      ∙ ap (λ (rs : List Listed). map (in_seq (seq + 1)) (here ++ next) ++ rs) behind
      ∙ ap (λ (rs : List Listed). rs ++ rest) (map-append (in_seq (seq + 1)) here next)
      ∙ append_assoc (map (in_seq (seq + 1)) here) (map (in_seq (seq + 1)) next) rest
      ∙ ap (λ (rs : List Listed). rs ++ (map (in_seq (seq + 1)) next ++ rest)) (sym first)
      ∙ ap (λ (rs : List Listed). map to (map (in_seq seq) here) ++ (rs ++ rest)) (sym second)
      ∙ ap (λ (rs : List Listed). map to (map (in_seq seq) here) ++ (map to (map (in_seq (seq + 1)) next) ++ rs)) (sym last)
      ∙ ap (λ (rs : List Listed). map to (map (in_seq seq) here) ++ rs) (sym (map-append to (map (in_seq (seq + 1)) next) rest))
      ∙ sym (map-append to (map (in_seq seq) here) (map (in_seq (seq + 1)) next ++ rest))

  -- ---- the first page of the oldest list

  none_at : (lists : List (List ℕ)) (low seq n : ℕ) → low < seq → first_at low (rows_from lists g kind seq n) ≡ None
  unfolding rows_from
  none_at lists low seq zero above = refl
  none_at lists low seq (suc n) above = go (list_at lists (slot g kind seq)) (none_at lists low (seq + 1) n (omega arith))
    where
      go : (ps : List ℕ) → first_at low (rows_from lists g kind (seq + 1) n) ≡ None → first_at low (map (in_seq seq) ps ++ rows_from lists g kind (seq + 1) n) ≡ None
      go [] rest = rest
      go (p ∷ ps) rest = rw (ne_eqb seq low (λ same. omega arith)) refl

  pub oldest_first : (lists : List (List ℕ)) (seq n : ℕ) → slice_get (list_at lists (slot g kind seq)) 0 ≡ first_at seq (rows_from lists g kind seq (suc n))
  unfolding rows_from
  oldest_first lists seq n = go (list_at lists (slot g kind seq))
    where
      go : (ps : List ℕ) → slice_get ps 0 ≡ first_at seq (map (in_seq seq) ps ++ rows_from lists g kind (seq + 1) n)
      go [] = sym (none_at lists seq (seq + 1) n (omega arith))
      go (p ∷ ps) = rw (eq-eqb seq seq refl) refl

  pub oldest_empty : (lists : List (List ℕ)) (seq n : ℕ) → first_at seq (rows_from lists g kind seq (suc n)) ≡ None → list_at lists (slot g kind seq) ≡ []
  oldest_empty lists seq n none = go (list_at lists (slot g kind seq)) (oldest_first lists seq n ∙ none)
    where
      go : (ps : List ℕ) → slice_get ps 0 ≡ None → ps ≡ []
      go [] e = refl
      go (p ∷ ps) e = absurd (cc)
