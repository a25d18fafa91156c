-- The first page from a generation on, and the page behind another.
use Rattle.std.proofs.Common.{◌≡◌, ◌≢◌, ℕ, suc, ◌+◌, ◌-◌, ◌%◌, ◌<◌, ◌≤◌, ◌||◌, Bool, true, false, List, [], ◌∷◌, ◌++◌, map, eqb, Option, Some, None, is_some, slice_get, option_map, IfSome, refl, sym, ap, subst, ◌∙◌, arith, append_assoc, inl, inr}
use Rattle.std.specs.List.{AllByRecursion, IsDistinct}
use Rattle.std.proofs.lemmas.List.{map-append}
use Rattle.std.proofs.lemmas.Bool.{cases_Bool, cases_eq, or_left, or_right, or_parts, false≢true, true≢false, false_from_ne_true, eq-eqb, ne_eqb}
use Rattle.machine.specs.declared.record.Kind.{Kind}
use Rattle.machine.specs.declared.record.Kind.TheVariants.{Anon, File}
use Rattle.machine.specs.declared.id.PageId.{PageId}
use Rattle.machine.specs.Generations.{Listed, has_page, after_in}
use Rattle.page_lists.proofs.ListedLemmas.{has_page-append}
use Rattle.rings.specs.declared.ring_node.Link.{Link}
use Rattle.rings.specs.declared.ring_node.ListId.{ListId}
use Rattle.rings.specs.declared.ring_node.RingNode.TheVariants.{Head}
use Rattle.rings.specs.RingNodes.{page_node}
use Rattle.rings.specs.Rings.{list_at, has, first_node, last_from, last_node, AreApart, StandsBetween}
use Rattle.rings.proofs.ListLemmas.{has_first, has_behind}
use Rattle.lru_gen.specs.Lists.{slot}
use Rattle.lru_gen.specs.Rows.{in_seq, rows_from}
use Rattle.lru_gen.specs.Filled.{has_any}
use Rattle.lru_gen.proofs.SlotLemmas.{same_slot, slots_apart}
use Rattle.lru_gen.proofs.RowLemmas.{rows_less, rows_split}
use Rattle.lru_gen.proofs.SoundLemmas.{has_list, row_stands}

-- ---- the first page from a turn on

-- the first page of the last turns of a row that has so many
abbrev pub first_of : List (List ℕ) → ℕ → Kind → ℕ → ℕ → ℕ → Option ℕ
first_of lists g k q turns turn = option_map (λ l. l.page) (slice_get (rows_from lists g k (q + turn) (turns - turn)) 0)

module _ (lists : List (List ℕ)) (g : ℕ) (k : Kind) (q turns : ℕ) where
  list_of_turn : (turn : ℕ) → list_at lists (slot g k (q % 4 + turn)) ≡ list_at lists (slot g k (q + turn))
  list_of_turn turn = ap (λ (l : ℕ). list_at lists l) (same_slot g k (q % 4 + turn) (q + turn) (omega arith))

  pub found_here : (turn l : ℕ) → turn < turns → l ≡ slot g k (q % 4 + turn) → is_some (slice_get (list_at lists l) 0) ≡ true → slice_get (list_at lists l) 0 ≡ first_of lists g k q turns turn
  unfolding rows_from
  found_here turn l less at some =
      let left : turns - turn ≡ suc (turns - (turn + 1)) = omega arith in
      let here = ap (λ (i : ℕ). list_at lists i) at ∙ list_of_turn turn in
      ap (λ (ps : List ℕ). slice_get ps 0) here
      ∙ go (list_at lists (slot g k (q + turn))) (rows_from lists g k (q + turn + 1) (turns - (turn + 1))) (ap (λ (ps : List ℕ). is_some (slice_get ps 0)) (sym here) ∙ some)
      ∙ ap (λ (n : ℕ). option_map (λ (l : Listed). l.page) (slice_get (rows_from lists g k (q + turn) n) 0)) (sym left)
    where
      go : (ps : List ℕ) (rest : List Listed) → is_some (slice_get ps 0) ≡ true → slice_get ps 0 ≡ option_map (λ (l : Listed). l.page) (slice_get (map (in_seq (q + turn)) ps ++ rest) 0)
      go [] rest h = absurd (false≢true h)
      go (p ∷ ps) rest h = refl

  pub none_here : (turn l : ℕ) → turn < turns → l ≡ slot g k (q % 4 + turn) → is_some (slice_get (list_at lists l) 0) ≡ false → first_of lists g k q turns (turn + 1) ≡ first_of lists g k q turns turn
  none_here turn l less at none =
      let left : turns - turn ≡ suc (turns - (turn + 1)) = omega arith in
      let next : q + (turn + 1) ≡ q + turn + 1 = omega arith in
      let empty : list_at lists (slot g k (q + turn)) ≡ [] =
      sym (list_of_turn turn) ∙ ap (λ (i : ℕ). list_at lists i) (sym at) ∙ go (list_at lists l) none in
      ap (λ (s : ℕ). option_map (λ (l : Listed). l.page) (slice_get (rows_from lists g k s (turns - (turn + 1))) 0)) next
      ∙ ap (λ (rs : List Listed). option_map (λ (l : Listed). l.page) (slice_get rs 0)) (rows_less g k lists (q + turn) (turns - (turn + 1)) empty)
      ∙ ap (λ (n : ℕ). option_map (λ (l : Listed). l.page) (slice_get (rows_from lists g k (q + turn) n) 0)) (sym left)
    where
      go : (ps : List ℕ) → is_some (slice_get ps 0) ≡ false → ps ≡ []
      go [] h = refl
      go (p ∷ ps) h = absurd (true≢false h)

  pub none_left : (turn : ℕ) → turns ≤ turn → first_of lists g k q turns turn ≡ None
  unfolding rows_from
  none_left turn last =
      let left : turns - turn ≡ 0 = omega arith in
      ap (λ (n : ℕ). option_map (λ (l : Listed). l.page) (slice_get (rows_from lists g k (q + turn) n) 0)) left

pub some_mapped : (found : Option PageId) → is_some (option_map (λ (p : PageId). p.0) found) ≡ is_some found
some_mapped None = refl
some_mapped (Some p) = refl

pub first_tells : (xs : List Listed) (first : Option PageId) → option_map (λ (p : PageId). p.0) first ≡ option_map (λ (l : Listed). l.page) (slice_get xs 0) → is_some first ≡ has_any xs
first_tells [] None is = refl
first_tells [] (Some p) is = absurd (cc)
first_tells (x ∷ xs) None is = absurd (cc)
first_tells (x ∷ xs) (Some p) is = refl

-- ---- the page behind another

after_at : (p : ℕ) (xs : List Listed) (l : Listed) (ys : List Listed) → has_page p xs ≡ false → l.page ≡ p → after_in p (xs ++ l ∷ ys) ≡ option_map (λ (m : Listed). m.page) (slice_get ys 0)
after_at p [] l [] none is = refl
after_at p [] l (y ∷ ys) none is = rw (eq-eqb l.page p is) refl
after_at p (x ∷ []) l ys none is =
    let parts = or_parts (eqb x.page p) false none in
    rw parts.0 (after_at p [] l ys refl is)
after_at p (x ∷ next ∷ xs) l ys none is =
    let parts = or_parts (eqb x.page p) (has_page p (next ∷ xs)) none in
    rw parts.0 (after_at p (next ∷ xs) l ys parts.1 is)

-- nothing before it on its list is the page
none_before : (p : ℕ) (before after : List ℕ) → IsDistinct eqb (before ++ p ∷ after) → has before p ≡ false
unfolding IsDistinct
none_before p [] after d = refl
none_before p (x ∷ before) after d =
    elim (cases_eq p x) [
      | inl same ↦ absurd (true≢false (has_here p x before after same d.0))
      | inr other ↦ rw (ne_eqb p x other) (none_before p before after d.1)
    ]
  where
    has_here : (p x : ℕ) (before after : List ℕ) → p ≡ x → AllByRecursion (λ y. eqb x y ≡ false) (before ++ p ∷ after) → true ≡ false
    has_here p x [] after same h = sym (eq-eqb x p (sym same)) ∙ h.0
    has_here p x (y ∷ before) after same h = has_here p x before after same h.1

-- the turn after that of the generation on a list
turn_of : (g : ℕ) (k : Kind) (q turn s l : ℕ) → q ≤ s → s < q + 4 → 1 ≤ turn → turn ≤ 4 → slot g k s ≡ l → (q + turn) % 4 ≡ (l + 1) % 4 → q + turn ≡ s + 1
turn_of g Anon q turn s l low high later last same follows = omega arith
turn_of g File q turn s l low high later last same follows = omega arith

module _ (lists : List (List ℕ)) (apart : AreApart lists) (g : ℕ) (k : Kind) (q turns : ℕ) (four : turns ≤ 4) (p : ℕ) (listed : has_page p (rows_from lists g k q turns) ≡ true) where
  -- a row parts at the page
  at_page : (s m n : ℕ) (before after : List ℕ) → s ≡ q + m → m + suc n ≡ turns → list_at lists (slot g k s) ≡ before ++ p ∷ after → after_in p (rows_from lists g k q turns) ≡ option_map (λ (l : Listed). l.page) (slice_get (map (in_seq s) after ++ rows_from lists g k (s + 1) n) 0)
  unfolding rows_from
  at_page s m n before after at many stands =
      let early = rows_from lists g k q m in
      let late = rows_from lists g k (s + 1) n in
      let first = map (in_seq s) before in
      let here : has (list_at lists (slot g k s)) p ≡ true =
      ap (λ (ps : List ℕ). has ps p) stands ∙ has_behind before (p ∷ after) p (has_first p after) in
      let not_early : has_page p early ≡ false =
      false_from_ne_true (has_page p early) (λ there.
      let found = row_stands lists g k p q m there in
      slots_apart g k found.seq s (omega (arith, found.below)) (omega (arith, found.from)) (apart.one p (slot g k found.seq) (slot g k s) found.there here)) in
      let not_before : has before p ≡ false =
      none_before p before after (subst (λ (ps : List ℕ). IsDistinct eqb ps) stands (apart.once (slot g k s))) in
      let not_first : has_page p (early ++ first) ≡ false =
      has_page-append p early first ∙ ap (λ (b : Bool). b || has_page p first) not_early ∙ has_list p s before ∙ not_before in
      let whole : rows_from lists g k q turns ≡ (early ++ first) ++ in_seq s p ∷ (map (in_seq s) after ++ late) =
      ap (rows_from lists g k q) (sym many)
      ∙ rows_split g k lists q m (suc n)
      ∙ ap (λ (i : ℕ). early ++ rows_from lists g k i (suc n)) (sym at)
      ∙ ap (λ (ps : List ℕ). early ++ (map (in_seq s) ps ++ late)) stands
      ∙ ap (λ (rs : List Listed). early ++ (rs ++ late)) (map-append (in_seq s) before (p ∷ after))
      ∙ ap (λ (rs : List Listed). early ++ rs) (append_assoc first (in_seq s p ∷ map (in_seq s) after) late)
      ∙ sym (append_assoc early first (in_seq s p ∷ (map (in_seq s) after ++ late))) in
      ap (after_in p) whole ∙ after_at p (early ++ first) (in_seq s p) (map (in_seq s) after ++ late) not_first refl

  -- the list that the page is found on is that of its generation
  its_list : (l : ℕ) (before after : List ℕ) → list_at lists l ≡ before ++ p ∷ after → slot g k (row_stands lists g k p q turns listed).seq ≡ l
  its_list l before after stands =
      let found = row_stands lists g k p q turns listed in
      apart.one p (slot g k found.seq) l found.there (ap (λ (ps : List ℕ). has ps p) stands ∙ has_behind before (p ∷ after) p (has_first p after))

  pub next_on_list : (l next : ℕ) (before after : List ℕ) → list_at lists l ≡ before ++ p ∷ next ∷ after → Some next ≡ after_in p (rows_from lists g k q turns)
  next_on_list l next before after stands =
      let found = row_stands lists g k p q turns listed in
      let own = ap (λ (i : ℕ). list_at lists i) (its_list l before (next ∷ after) stands) ∙ stands in
      sym (at_page found.seq (found.seq - q) (turns - 1 - (found.seq - q)) before (next ∷ after) (omega (arith, found.from)) (omega (arith, found.from, found.below)) own)

  pub next_in_turn : (l turn : ℕ) (before : List ℕ) → list_at lists l ≡ before ++ p ∷ [] → 1 ≤ turn → turn ≤ 4 → (q + turn) % 4 ≡ (l + 1) % 4 → first_of lists g k q turns turn ≡ after_in p (rows_from lists g k q turns)
  next_in_turn l turn before stands later last follows =
      let found = row_stands lists g k p q turns listed in
      let same = its_list l before [] stands in
      let own = ap (λ (i : ℕ). list_at lists i) same ∙ stands in
      let turn_is : q + turn ≡ found.seq + 1 = turn_of g k q turn found.seq l found.from (omega (arith, found.below)) later last same follows in
      let left : turns - turn ≡ turns - 1 - (found.seq - q) = omega (arith, found.from, found.below) in
      ap (λ (s : ℕ). option_map (λ (r : Listed). r.page) (slice_get (rows_from lists g k s (turns - turn)) 0)) turn_is
      ∙ ap (λ (n : ℕ). option_map (λ (r : Listed). r.page) (slice_get (rows_from lists g k (found.seq + 1) n) 0)) left
      ∙ sym (at_page found.seq (found.seq - q) (turns - 1 - (found.seq - q)) before [] (omega (arith, found.from)) (omega (arith, found.from, found.below)) own)

-- ---- the list on which a page stands alone

last_is_page : (x : ℕ) (xs : List ℕ) (a : ListId) → last_from (page_node x) xs ≢ Head a
last_is_page x [] a same = cc
last_is_page x (y ∷ ys) a same = last_is_page y ys a same

-- a page between heads is alone on its list
pub between_heads : (lists : List (List ℕ)) (p : ℕ) (link : Link) (a b : ListId) → StandsBetween lists p link → link.prev ≡ Head a → link.next ≡ Head b → list_at lists b.0 ≡ p ∷ []
between_heads lists p link a b is from to = go is.before is.after is.stands (sym is.prev ∙ from) (sym is.next ∙ to)
  where
    go : (before after : List ℕ) → list_at lists is.list ≡ before ++ p ∷ after → last_node is.list before ≡ Head a → first_node is.list after ≡ Head b → list_at lists b.0 ≡ p ∷ []
    go [] [] stands first last = let same : is.list ≡ b.0 = cc in ap (λ (l : ℕ). list_at lists l) (sym same) ∙ stands
    go [] (x ∷ after) stands first last = absurd (cc)
    go (x ∷ before) after stands first last = absurd (last_is_page x before a first)

-- ---- what is found is there

pub first_is_there : (found : Option PageId) (xs : List Listed) → option_map (λ (p : PageId). p.0) found ≡ option_map (λ (l : Listed). l.page) (slice_get xs 0) → IfSome found (λ (p : PageId). has_page p.0 xs ≡ true)
first_is_there None xs is = tt
first_is_there (Some p) [] is = absurd (cc)
first_is_there (Some p) (x ∷ xs) is =
    let same : x.page ≡ p.0 = cc in
    or_left (eqb x.page p.0) (has_page p.0 xs) (eq-eqb x.page p.0 same)

after_there : (p q : ℕ) (xs : List Listed) → Some q ≡ after_in p xs → has_page q xs ≡ true
after_there p q [] is = absurd (cc)
after_there p q (x ∷ []) is = absurd (cc)
after_there p q (x ∷ next ∷ xs) is =
    or_right (eqb x.page q) (has_page q (next ∷ xs)) (elim (cases_Bool (eqb x.page p)) [
      | inl here ↦
          let found : Some q ≡ Some next.page = rw here at is in
          let same : next.page ≡ q = cc in
          or_left (eqb next.page q) (has_page q xs) (eq-eqb next.page q same)
      | inr later ↦ after_there p q (next ∷ xs) (rw later at is)
    ])

pub after_is_there : (found : Option PageId) (p : ℕ) (xs : List Listed) → option_map (λ (q : PageId). q.0) found ≡ after_in p xs → IfSome found (λ (q : PageId). has_page q.0 xs ≡ true)
after_is_there None p xs is = tt
after_is_there (Some q) p xs is = after_there p q.0 xs is
