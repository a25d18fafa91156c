-- Members of a `together`: their lists, and how much of them was taken.
use Rattle.std.proofs.Common.{◌≡◌, ℕ, zero, suc, ◌+◌, ◌-◌, ◌^◌, ◌<◌, ◌≤◌, true, false, nat_lt, List, [], ◌∷◌, ◌++◌, length, min, slice_get, get_or, set, drop, Some, None, refl, sym, ap, subst, ◌∙◌, zero-add, add-one, arith}
use Rattle.std.specs.Option.{option_map}
use Rattle.std.proofs.lemmas.List.{drop_more, drop_all}
use Rattle.std.proofs.lemmas.Bool.{ltb-true, lt-ltb}
use borrow.Author.Tests.{le-ltb}
use Rattle.scenario_lines.specs.declared.burst.Deed.{Deed}
use Rattle.scenario_lines.specs.Acts.{entry_count}
use Rattle.scenario_lines.specs.Tasks.{StartedTask, StandingNow, TasksNow}
use Rattle.expansion.specs.declared.merge.Cursor.{Cursor}
use Rattle.expansion.specs.Merge.{has_next, member_at}
use Rattle.expansion.specs.Standings.{after_entries, after_first, standing}
use Rattle.expansion.specs.Together.{PlacedNow, MemberNow, entries, total, total_before, IsIn, NoneEmpty, entry_in, cursor_of, cursors_of, with_list, added, counted, one_taken, taken_once, member_or, has_left, taken_of, taken_if_left, with_place, left_of, after_lists, after_members}

-- ---- entries of lists

never : false ≡ true → ⊥
never e = cc

pub entry_there : (ps : List PlacedNow) (at place : ℕ) → IsIn ps at place → option_map (with_place place) (slice_get ps at) ≡ entry_in ps (total_before at ps + place)
entry_there [] at place h = refl
entry_there (p ∷ ps) zero place h = rw (zero-add, lt-ltb place (entries p) h) refl
entry_there (p ∷ ps) (suc at) place h =
    let past : nat_lt (entries p + total_before at ps + place) (entries p) ≡ false = le-ltb _ _ (omega arith) in
    let left : entries p + total_before at ps + place - entries p ≡ total_before at ps + place = omega arith in
    rw (past, left) (entry_there ps at place h)

pub in_lists : (ps : List PlacedNow) (at place : ℕ) → IsIn ps at place → total_before at ps + place < total ps → at < length ps
in_lists [] at place h below = absurd (omega (arith, h.0, h.1))
in_lists (p ∷ ps) zero place h below = omega arith
in_lists (p ∷ ps) (suc at) place h below = let k = in_lists ps at place h (omega arith) in omega arith

pub in_at : (ps : List PlacedNow) (at place : ℕ) (d : PlacedNow) → at < length ps → place < entries (get_or ps at d) → IsIn ps at place
in_at [] at place d within below = absurd (omega arith)
in_at (p ∷ ps) zero place d within below = below
in_at (p ∷ ps) (suc at) place d within below = in_at ps at place d (omega arith) below

pub is_within : (ps : List PlacedNow) (at place : ℕ) (d : PlacedNow) → at < length ps → IsIn ps at place → place < entries (get_or ps at d)
is_within [] at place d within h = absurd (omega arith)
is_within (p ∷ ps) zero place d within h = h
is_within (p ∷ ps) (suc at) place d within h = is_within ps at place d (omega arith) h

first_in : (ps : List PlacedNow) → NoneEmpty ps → IsIn ps 0 0
first_in [] some = (refl, refl)
first_in (p ∷ ps) some = some.0

in_next : (ps : List PlacedNow) (at : ℕ) → NoneEmpty ps → at < length ps → IsIn ps (suc at) 0
in_next [] at some within = absurd (omega arith)
in_next (p ∷ ps) zero some within = first_in ps some.1
in_next (p ∷ ps) (suc at) some within = in_next ps at some.1 (omega arith)

pub in_next_list : (ps : List PlacedNow) (at : ℕ) → NoneEmpty ps → at < length ps → IsIn ps (at + 1) 0
in_next_list ps at some within = rw add-one (in_next ps at some within)

more_before : (ps : List PlacedNow) (at : ℕ) (d : PlacedNow) → at < length ps → total_before (suc at) ps ≡ total_before at ps + entries (get_or ps at d)
more_before [] at d within = absurd (omega arith)
more_before (p ∷ ps) zero d within = omega arith
more_before (p ∷ ps) (suc at) d within = let e = more_before ps at d (omega arith) in omega arith

pub one_more_before : (ps : List PlacedNow) (at : ℕ) (d : PlacedNow) → at < length ps → total_before (at + 1) ps ≡ total_before at ps + entries (get_or ps at d)
one_more_before ps at d within = rw add-one (more_before ps at d within)

-- ---- one list more

pub total_added : (ps : List PlacedNow) (p : PlacedNow) → total (ps ++ p ∷ []) ≡ total ps + entries p
total_added [] p = omega arith
total_added (q ∷ ps) p = let e = total_added ps p in omega arith

pub none_empty_added : (ps : List PlacedNow) (p : PlacedNow) → 0 < entries p → NoneEmpty ps → NoneEmpty (ps ++ p ∷ [])
none_empty_added [] p some h = (some, tt)
none_empty_added (q ∷ ps) p some h = (h.0, none_empty_added ps p some h.1)

pub in_added : (ps : List PlacedNow) (p : PlacedNow) (at place : ℕ) → 0 < entries p → IsIn ps at place → IsIn (ps ++ p ∷ []) at place
in_added [] p at place some h = subst (λ k. IsIn (p ∷ []) k place) (sym h.0) (subst (λ k. k < entries p) (sym h.1) some)
in_added (q ∷ ps) p zero place some h = h
in_added (q ∷ ps) p (suc at) place some h = in_added ps p at place some h

pub before_added : (ps : List PlacedNow) (p : PlacedNow) (at place : ℕ) → IsIn ps at place → total_before at (ps ++ p ∷ []) ≡ total_before at ps
before_added [] p at place h = subst (λ k. total_before k (p ∷ []) ≡ total_before k []) (sym h.0) refl
before_added (q ∷ ps) p zero place h = refl
before_added (q ∷ ps) p (suc at) place h = ap (λ k. entries q + k) (before_added ps p at place h)

-- ---- members

pub cursor_at : (ms : List MemberNow) (m : ℕ) → member_at (cursors_of ms) m ≡ cursor_of (member_or (slice_get ms m))
cursor_at [] m = refl
cursor_at (x ∷ xs) zero = refl
cursor_at (x ∷ xs) (suc m) = cursor_at xs m

pub cursors_taken : (ms : List MemberNow) (m : ℕ) → cursors_of (taken_of ms m) ≡ one_taken (cursors_of ms) m
cursors_taken [] m = refl
cursors_taken (x ∷ xs) zero = refl
cursors_taken (x ∷ xs) (suc m) = ap (λ (cs : List Cursor). cursor_of x ∷ cs) (cursors_taken xs m)

pub less_left : (ms : List MemberNow) (m : ℕ) → has_left ms m ≡ true → left_of ms ≡ suc (left_of (taken_of ms m))
less_left [] m left = absurd (never left)
less_left (x ∷ xs) zero left =
    let below : x.taken < min (total x.lists) (2 ^ 64 - 1) = ltb-true _ _ left in
    less_here (total x.lists - x.taken) (total x.lists - (x.taken + 1)) (left_of xs) (omega arith)
  where
    less_here : (a b c : ℕ) → a ≡ suc b → a + c ≡ suc (b + c)
    less_here a b c e = omega arith
less_left (x ∷ xs) (suc m) left = less_there (total x.lists - x.taken) (left_of xs) (left_of (taken_of xs m)) (less_left xs m left)
  where
    less_there : (a b c : ℕ) → b ≡ suc c → a + b ≡ suc (a + c)
    less_there a b c e = omega arith

cursor_added : (m : MemberNow) (p : PlacedNow) → cursor_of (with_list p m) ≡ record (cursor_of m) { count = min ((cursor_of m).count + entries p) (2 ^ 64 - 1) }
cursor_added m p = let e = total_added m.lists p in ap (λ (k : ℕ). record (cursor_of m) { count = k }) (omega arith)

pub cursors_added : (ms : List MemberNow) (p : PlacedNow) → cursors_of (added p ms) ≡ counted (entries p) (cursors_of ms)
cursors_added [] p = refl
cursors_added (m ∷ []) p = ap (λ (c : Cursor). c ∷ []) (cursor_added m p)
cursors_added (m ∷ n ∷ ms) p = ap (λ (cs : List Cursor). cursor_of m ∷ cs) (cursors_added (n ∷ ms) p)

pub added_last : (ms : List MemberNow) (p : PlacedNow) (d : MemberNow) → 0 < length ms → set ms (length ms - 1) (with_list p (get_or ms (length ms - 1) d)) ≡ added p ms
added_last [] p d some = absurd (omega arith)
added_last (m ∷ []) p d some = refl
added_last (m ∷ n ∷ ms) p d some =
    let e : suc (suc (length ms)) - 1 ≡ suc (suc (length ms) - 1) = omega arith in
    rw e (ap (λ (xs : List MemberNow). m ∷ xs) (added_last (n ∷ ms) p d (omega arith)))

pub counted_last : (cs : List Cursor) (many : ℕ) (d : Cursor) → 0 < length cs
    → set cs (length cs - 1) (record (get_or cs (length cs - 1) d) { count = min ((get_or cs (length cs - 1) d).count + many) (2 ^ 64 - 1) }) ≡ counted many cs
counted_last [] many d some = absurd (omega arith)
counted_last (c ∷ []) many d some = refl
counted_last (c ∷ b ∷ cs) many d some =
    let e : suc (suc (length cs)) - 1 ≡ suc (suc (length cs) - 1) = omega arith in
    rw e (ap (λ (xs : List Cursor). c ∷ xs) (counted_last (b ∷ cs) many d (omega arith)))

-- ---- what was taken leaves behind

no_entry : (d : Deed) (st : List StandingNow) → after_first d 0 st ≡ st
no_entry d st = let e : min 0 (entry_count d) ≡ 0 = omega arith in rw e refl

pub list_behind : (ps : List PlacedNow) (at number : ℕ) (d : PlacedNow) (st next : List StandingNow) → at < length ps
    → next ≡ after_first (get_or ps at d).deed (number - total_before at ps) st
    → after_lists (drop (at + 1) ps) (number - total_before (at + 1) ps) next ≡ after_lists (drop at ps) (number - total_before at ps) st
list_behind ps at number d st next within e =
    let more = one_more_before ps at d within in
    let left : number - total_before (at + 1) ps ≡ number - total_before at ps - entries (get_or ps at d) = omega arith in
    rw (e, left, drop_more ps at d within) refl

-- ---- the list at work

pub list_at : (ps : List PlacedNow) (at : ℕ) (p : PlacedNow) → slice_get ps at ≡ Some p → (at < length ps) × (get_or ps at p ≡ p)
list_at [] at p e = absurd (cc)
list_at (q ∷ ps) zero p e = (omega arith, cc)
list_at (q ∷ ps) (suc at) p e = let h = list_at ps at p e in ((let k = h.0 in omega arith), h.1)

pub none_at : (ps : List PlacedNow) (at : ℕ) → slice_get ps at ≡ None → length ps ≤ at
none_at [] at e = omega arith
none_at (q ∷ ps) zero e = absurd (cc)
none_at (q ∷ ps) (suc at) e = let k = none_at ps at e in omega arith

-- one more entry of the list at work
pub one_more_there : (ps : List PlacedNow) (m : MemberNow) (at place next : ℕ) (p : PlacedNow) → IsIn ps at place → record { lists = ps; taken = total_before at ps + place } ≡ m → slice_get ps at ≡ Some p → next < entries p → next ≡ place + 1
    → record { lists = ps; taken = total_before at ps + next } ≡ taken_once m
one_more_there ps m at place next p h e there below one =
    let same : total_before at ps + next ≡ total_before at ps + place + 1 = omega arith in
    rw (same, ← e) refl

pub still_in : (ps : List PlacedNow) (at next : ℕ) (p : PlacedNow) → slice_get ps at ≡ Some p → next < entries p → IsIn ps at next
still_in ps at next p there below =
    let h = list_at ps at p there in
    in_at ps at next p h.0 (subst (λ (q : PlacedNow). next < entries q) (sym h.1) below)

-- the last entry of the list at work
pub one_more_ends : (ps : List PlacedNow) (m : MemberNow) (at place next : ℕ) (p : PlacedNow) → IsIn ps at place → record { lists = ps; taken = total_before at ps + place } ≡ m → slice_get ps at ≡ Some p → entries p ≤ place + 1 → next ≡ at + 1
    → record { lists = ps; taken = total_before next ps + 0 } ≡ taken_once m
one_more_ends ps m at place next p h e there last one =
    let k = list_at ps at p there in
    let here : place < entries p = subst (λ (q : PlacedNow). place < entries q) k.1 (is_within ps at place p k.0 h) in
    let before : total_before (at + 1) ps ≡ total_before at ps + entries p = one_more_before ps at p k.0 ∙ ap (λ (q : PlacedNow). total_before at ps + entries q) k.1 in
    let same : total_before (at + 1) ps + 0 ≡ total_before at ps + place + 1 = omega arith in
    rw (one, same, ← e) refl

pub next_in : (ps : List PlacedNow) (at next : ℕ) (p : PlacedNow) → NoneEmpty ps → slice_get ps at ≡ Some p → next ≡ at + 1 → IsIn ps next 0
next_in ps at next p some there one = rw one (in_next_list ps at some (list_at ps at p there).0)

pub nothing_left : (ps : List PlacedNow) (m : MemberNow) (at place : ℕ) → IsIn ps at place → record { lists = ps; taken = total_before at ps + place } ≡ m → m.taken < total m.lists → slice_get ps at ≡ None → ⊥
nothing_left ps m at place h e below none =
    let b : total_before at ps + place < total ps = rw (← e) at below in
    let i = in_lists ps at place h b in
    let j = none_at ps at none in
    omega arith

-- ---- what was taken, list by list

mono : (ps : List PlacedNow) (a b : ℕ) → a ≤ b → total_before a ps ≤ total_before b ps
mono ps zero b h = omega arith
mono [] (suc a) zero h = absurd (omega arith)
mono [] (suc a) (suc b) h = omega arith
mono (p ∷ ps) (suc a) zero h = absurd (omega arith)
mono (p ∷ ps) (suc a) (suc b) h = let k = mono ps a b (omega arith) in omega arith

-- a list before the one at work: all its entries
pub all_behind : (ps : List PlacedNow) (k at taken number : ℕ) (d : PlacedNow) (st : List StandingNow) → k < length ps → k < at → number ≡ total_before at ps + taken
    → after_first (get_or ps k d).deed (entries (get_or ps k d)) st ≡ after_first (get_or ps k d).deed (number - total_before k ps) st
all_behind ps k at taken number d st within before e =
    let p = get_or ps k d in
    let more = one_more_before ps k d within in
    let up = mono ps (k + 1) at (omega arith) in
    let same : min (entries p) (entries p) ≡ min (number - total_before k ps) (entries p) = omega arith in
    ap (λ (n : ℕ). after_entries p.deed 0 n st) same

-- the one at work: so many as were taken
pub some_behind : (ps : List PlacedNow) (k at taken number : ℕ) (d : PlacedNow) (st : List StandingNow) → k ≡ at → number ≡ total_before at ps + taken
    → after_first (get_or ps k d).deed taken st ≡ after_first (get_or ps k d).deed (number - total_before k ps) st
some_behind ps k at taken number d st here e =
    let one : total_before k ps ≡ total_before at ps = ap (λ (n : ℕ). total_before n ps) here in
    let same : taken ≡ number - total_before k ps = omega arith in
    ap (λ (n : ℕ). after_first (get_or ps k d).deed n st) same

-- one after it: none
pub none_behind : (ps : List PlacedNow) (k at taken number : ℕ) (d : PlacedNow) (st : List StandingNow) → k < length ps → at < k → IsIn ps at taken → number ≡ total_before at ps + taken
    → st ≡ after_first (get_or ps k d).deed (number - total_before k ps) st
none_behind ps k at taken number d st within after h e =
    let some = is_within ps at taken d (omega arith) h in
    let more = one_more_before ps at d (omega arith) in
    let up = mono ps (at + 1) k (omega arith) in
    let same : number - total_before k ps ≡ 0 = omega arith in
    sym (no_entry (get_or ps k d).deed st) ∙ ap (λ (n : ℕ). after_first (get_or ps k d).deed n st) (sym same)

pub others_more : (t0 t n : TasksNow) (st : List StandingNow) → t ≡ standing t0 t.standings → n ≡ standing t st → n ≡ standing t0 n.standings
others_more t0 t n st held e =
    let one : n.started ≡ t.started = ap (λ (x : TasksNow). x.started) e in
    let two : t.started ≡ t0.started = ap (λ (x : TasksNow). x.started) held in
    ap (λ (xs : List StartedTask). record { started = xs; standings = n.standings }) (one ∙ two)

pub standings_of : (t n : TasksNow) (st : List StandingNow) → n ≡ standing t st → n.standings ≡ st
standings_of t n st e = ap (λ (x : TasksNow). x.standings) e

pub left_over : (t0 t : TasksNow) (st : List StandingNow) → t ≡ standing t0 t.standings → t.standings ≡ st → t ≡ standing t0 st
left_over t0 t st held e = held ∙ ap (standing t0) e

pub member_behind : (ms : List MemberNow) (k : ℕ) (m : MemberNow) (st next whole : List StandingNow) → k < length ms → m ≡ get_or ms k m → next ≡ after_lists m.lists m.taken st
    → after_members (drop k ms) st ≡ whole → after_members (drop (k + 1) ms) next ≡ whole
member_behind ms k m st next whole within is e held =
    let front : drop k ms ≡ m ∷ drop (k + 1) ms = drop_more ms k m within ∙ ap (λ (x : MemberNow). x ∷ drop (k + 1) ms) (sym is) in
    rw e (ap (λ (xs : List MemberNow). after_members xs st) (sym front) ∙ held)

pub no_member : (ms : List MemberNow) (k : ℕ) (st whole : List StandingNow) → length ms ≤ k → after_members (drop k ms) st ≡ whole → st ≡ whole
no_member ms k st whole past held = ap (λ (xs : List MemberNow). after_members xs st) (sym (drop_all k ms past)) ∙ held

pub no_list : (ps : List PlacedNow) (k many : ℕ) (st whole : List StandingNow) → length ps ≤ k → after_lists (drop k ps) many st ≡ whole → st ≡ whole
no_list ps k many st whole past held = ap (λ (xs : List PlacedNow). after_lists xs many st) (sym (drop_all k ps past)) ∙ held

-- ---- one turn

pub left_from : (ms : List MemberNow) (cs : List Cursor) (m : ℕ) → cs ≡ cursors_of ms → has_left ms m ≡ has_next (member_at cs m)
left_from ms cs m e = sym (ap has_next (cursor_at ms m)) ∙ ap (λ (xs : List Cursor). has_next (member_at xs m)) (sym e)

pub taken_cursors : (ms xs : List MemberNow) (cs ns : List Cursor) (m : ℕ) → cs ≡ cursors_of ms → ns ≡ one_taken cs m → xs ≡ taken_of ms m → ns ≡ cursors_of xs
taken_cursors ms xs cs ns m e f g = f ∙ ap (λ (ys : List Cursor). one_taken ys m) e ∙ sym (cursors_taken ms m) ∙ sym (ap cursors_of g)

pub is_left : (ms : List MemberNow) (m : ℕ) → has_left ms m ≡ true → taken_of ms m ≡ taken_if_left ms m
is_left ms m e = rw e refl

pub none_left : (ms : List MemberNow) (m : ℕ) → has_left ms m ≡ false → ms ≡ taken_if_left ms m
none_left ms m e = rw e refl

pub left_within : (ms : List MemberNow) (m : ℕ) → has_left ms m ≡ true → m < length ms
left_within [] m left = absurd (never left)
left_within (x ∷ xs) zero left = omega arith
left_within (x ∷ xs) (suc m) left = let k = left_within xs m left in omega arith

pub left_less : (ms : List MemberNow) (m : ℕ) (d : MemberNow) → has_left ms m ≡ true → (get_or ms m d).taken < total (get_or ms m d).lists
left_less [] m d left = absurd (never left)
left_less (x ∷ xs) zero d left = let below : x.taken < min (total x.lists) (2 ^ 64 - 1) = ltb-true _ _ left in omega arith
left_less (x ∷ xs) (suc m) d left = left_less xs m d left

pub set_taken : (ms : List MemberNow) (m : ℕ) (d : MemberNow) → m < length ms → set ms m (taken_once (get_or ms m d)) ≡ taken_of ms m
set_taken [] m d within = absurd (omega arith)
set_taken (x ∷ xs) zero d within = refl
set_taken (x ∷ xs) (suc m) d within = ap (λ (ys : List MemberNow). x ∷ ys) (set_taken xs m d (omega arith))

-- one list more
pub list_goes : (ps : List PlacedNow) (k number many : ℕ) (p : PlacedNow) (d : Deed) (t0 t n : TasksNow) (whole : List StandingNow) → k < length ps → d ≡ (get_or ps k p).deed
    → t ≡ standing t0 t.standings → after_lists (drop k ps) (number - total_before k ps) t.standings ≡ whole
    → n ≡ standing t (after_first d many t.standings) → after_first (get_or ps k p).deed many t.standings ≡ after_first (get_or ps k p).deed (number - total_before k ps) t.standings
    → record { others : n ≡ standing t0 n.standings; left : after_lists (drop (k + 1) ps) (number - total_before (k + 1) ps) n.standings ≡ whole }
list_goes ps k number many p d t0 t n whole within same others held e behind =
    let st : n.standings ≡ after_first (get_or ps k p).deed (number - total_before k ps) t.standings = standings_of t n _ e ∙ ap (λ (x : Deed). after_first x many t.standings) same ∙ behind in
    record { others = others_more t0 t n _ others e; left = list_behind ps k number p t.standings n.standings within st ∙ held }
