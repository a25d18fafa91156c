-- How the runs made so far compare with the current path, and with each other.
use Rattle.std.proofs.Common.{◌≡◌, ℕ, zero, suc, ◌+◌, ◌<◌, List, [], ◌∷◌, ◌++◌, length, get_or, take, drop, Bool, true, false, refl, sym, ◌∙◌, ap, ap₂, subst, inl, inr, arith, All, AllPairs, nat_eq, Option, Some, None, if◌then◌else◌, add-one, length-append, lt_trans, Contains, eqb-true, eq-eqb, map, append_assoc, append-nil}
use Rattle.std.proofs.lemmas.List.Elements.{All-append}
use Rattle.std.proofs.lemmas.List.Quantifiers.{all_pairs_push}
use Rattle.std.specs.List.Sorted.{IsStrictlyIncreasing}
use Rattle.std.proofs.Math.Seq.{take-length}
use Rattle.orders.specs.declared.point.Point.{Point}
use Rattle.orders.specs.Paths.{Tree, paths, IsBefore}
use Rattle.orders.specs.Course.{Course, chosen, IsThrough, HeadIs, IsKnown, Adds, Bumps, Advances, path_of, taken, left, left_from}
use Rattle.orders.specs.Runs.{Turn, Run, path_of_run, turn_at, turns_at, turns, IsWithinFrom, IsWithin, IsRunFrom, IsRun, AreAllRuns, IsWalk, Agree, AreRuns, Precedes, CameBy, seen, found_or, tree_of, RunsHaveATree}
use Rattle.orders.proofs.Members.{In, In-Contains, In-left, In-right, All-In}

-- ---- a new point

precedes-push : (run : Run) (points : List Point) (x : Point) → Precedes run points → Precedes run (points ++ x ∷ [])
precedes-push [] points x h = absurd h
precedes-push (turn ∷ run) [] x h = absurd h
precedes-push (turn ∷ run) (p ∷ points) x h =
    (h.0, elim h.1 [ inl lt ↦ inl lt | inr e ↦ inr (e.0, precedes-push run points x e.1) ])

only : {X : Type 0} (P : X → Type 0) (x : X) → P x → All P (x ∷ [])
only {X} P x h = All-In P (x ∷ []) (λ y m. elim m [ inl e ↦ let Q : X → Type 0 = P in subst Q e h | inr f ↦ absurd f ])

pub came_by-adds : (runs : List Run) (old : Course) (ready : List ℕ) (who : ℕ) (new : Course) → Adds old ready who new → IsStrictlyIncreasing ready → CameBy runs old → CameBy runs new
came_by-adds runs old ready who new a increasing h =
    let B : List Point → Type 0 = λ (l : List Point). All (λ (run : Run). Precedes run l) runs in
    let R : List Point → Type 0 = λ (l : List Point). All (λ (point : Point). IsStrictlyIncreasing point.ready.items) l in
    let I : List ℕ → Type 0 = λ (l : List ℕ). IsStrictlyIncreasing l in
    let before : B (old.points ++ a.point ∷ []) = λ k d lt. precedes-push (get_or runs k d) old.points a.point (h.before k d lt) in
    let rising : R (old.points ++ a.point ∷ []) = All-append (λ (point : Point). IsStrictlyIncreasing point.ready.items) old.points (a.point ∷ []) h.rising (only (λ (point : Point). IsStrictlyIncreasing point.ready.items) a.point (subst I (sym a.ready_is) increasing)) in
    record { before = subst B (sym a.points) before; rising = subst R (sym a.points) rising; runs_are = h.runs_are }

pub came_by-same : (runs : List Run) (old new : Course) → new.points ≡ old.points → CameBy runs old → CameBy runs new
came_by-same runs old new e h =
    let B : List Point → Type 0 = λ (l : List Point). All (λ (run : Run). Precedes run l) runs in
    let R : List Point → Type 0 = λ (l : List Point). All (λ (point : Point). IsStrictlyIncreasing point.ready.items) l in
    record { before = subst B (sym e) h.before; rising = subst R (sym e) h.rising; runs_are = h.runs_are }

-- ---- the turns

turns_at-append : (xs ys : List Point) → turns_at (xs ++ ys) ≡ turns_at xs ++ turns_at ys
turns_at-append [] ys = refl
turns_at-append (x ∷ xs) ys = ap (λ (l : Run). turn_at x ∷ l) (turns_at-append xs ys)

turns_at-take : (is : Point → Type 0) (xs : List Point) (d : ℕ) → HeadIs is (drop d xs) → (x : Point) × is x × (turns_at (take (suc d) xs) ≡ turns_at (take d xs) ++ turn_at x ∷ [])
turns_at-take is [] zero h = absurd h
turns_at-take is [] (suc d) h = absurd h
turns_at-take is (x ∷ xs) zero h = (x, h, refl)
turns_at-take is (x ∷ xs) (suc d) h =
    let r : (y : Point) × is y × (turns_at (take (suc d) xs) ≡ turns_at (take d xs) ++ turn_at y ∷ []) = turns_at-take is xs d h in
    (r.0, r.1, ap (λ (l : Run). turn_at x ∷ l) r.2)

pub turns-through : (c : Course) → IsThrough c → turns c ≡ turns_at c.points
turns-through c through = ap (λ (n : ℕ). turns_at (take n c.points)) through ∙ ap turns_at (take-length c.points)

made : (a b : List ℕ) (v w : ℕ) → a ≡ b → v ≡ w → (let t : Turn = record { ready = a; who = v } in t) ≡ record { ready = b; who = w }
made a b v w p q = ap₂ (λ (r : List ℕ) (n : ℕ). let t : Turn = record { ready = r; who = n } in t) p q

pub turns-known : (old : Course) (ready : List ℕ) (who : ℕ) (new : Course) → IsKnown old ready who → new ≡ record old { depth = old.depth + 1 } → turns new ≡ turns old ++ record { ready = ready; who = who } ∷ []
turns-known old ready who new known e =
    let r : (x : Point) × ((x.ready.items ≡ ready) × (who ≡ chosen x)) × (turns_at (take (suc old.depth) old.points) ≡ turns_at (take old.depth old.points) ++ turn_at x ∷ []) =
    turns_at-take (λ (x : Point). (x.ready.items ≡ ready) × (who ≡ chosen x)) old.points old.depth known in
    ap turns e ∙ ap (λ (n : ℕ). turns_at (take n old.points)) (add-one old.depth) ∙ r.2
    ∙ ap (λ (t : Turn). turns old ++ t ∷ []) (made r.0.ready.items ready (chosen r.0) who r.1.0 (sym r.1.1))

pub turns-adds : (old : Course) (ready : List ℕ) (who : ℕ) (new : Course) → Adds old ready who new → turns new ≡ turns old ++ record { ready = ready; who = who } ∷ []
turns-adds old ready who new a =
    let through : IsThrough new = a.depth ∙ sym (ap (λ (l : List Point). length l) a.points ∙ length-append old.points (a.point ∷ [])) in
    turns-through new through ∙ ap turns_at a.points ∙ turns_at-append old.points (a.point ∷ [])
    ∙ ap₂ (λ (l : Run) (t : Turn). l ++ t ∷ []) (sym (turns-through old a.through)) (made a.point.ready.items ready (chosen a.point) who a.ready_is (sym a.who_is))

pub path_of_run-turns_at : (xs : List Point) → path_of_run (turns_at xs) ≡ path_of xs
path_of_run-turns_at [] = refl
path_of_run-turns_at (x ∷ xs) = ap (λ (l : List ℕ). chosen x ∷ l) (path_of_run-turns_at xs)

-- ---- the step to the next path

-- the next has a greater number
chosen-bumps : (x y : Point) → Bumps x y → y.at < length y.ready.items → IsStrictlyIncreasing x.ready.items → chosen x < chosen y
chosen-bumps x y b within increasing =
    let n : length y.ready.items ≡ length x.ready.items = ap (λ (l : List ℕ). length l) b.0 in
    let lt : get_or x.ready.items x.at 0 < get_or x.ready.items (x.at + 1) 0 = increasing x.at (omega arith) in
    let P : ℕ → Type 0 = λ (m : ℕ). get_or x.ready.items x.at 0 < m in
    subst P (sym (ap₂ (λ (l : List ℕ) (k : ℕ). get_or l k 0) b.0 b.1)) lt

precedes-next : (run : Run) (front : List Point) (x y : Point) (tail : List Point) → Bumps x y → chosen x < chosen y → Precedes run (front ++ x ∷ tail) → Precedes run (front ++ y ∷ [])
precedes-next [] front x y tail b lt h = absurd h
precedes-next (turn ∷ run) [] x y tail b lt h =
    (h.0 ∙ sym b.0, elim h.1 [ inl less ↦ inl (lt_trans less lt) | inr e ↦ inl (let P : ℕ → Type 0 = λ (n : ℕ). n < chosen y in subst P (sym e.0) lt) ])
precedes-next (turn ∷ run) (w ∷ front) x y tail b lt h =
    (h.0, elim h.1 [ inl less ↦ inl less | inr e ↦ inr (e.0, precedes-next run front x y tail b lt e.1) ])

precedes-self : (front : List Point) (x y : Point) (tail : List Point) → Bumps x y → chosen x < chosen y → Precedes (turns_at (front ++ x ∷ tail)) (front ++ y ∷ [])
precedes-self [] x y tail b lt = (sym b.0, inl lt)
precedes-self (w ∷ front) x y tail b lt = (refl, inr (refl, precedes-self front x y tail b lt))

agree-precedes : (run : Run) (points : List Point) → Precedes run points → Agree run (turns_at points)
agree-precedes [] points h = absurd h
agree-precedes (turn ∷ run) [] h = absurd h
agree-precedes (turn ∷ run) (p ∷ points) h =
    (h.0, λ e. elim h.1 [ inl lt ↦ absurd (omega arith) | inr g ↦ agree-precedes run points g.1 ])

before-precedes : (run : Run) (points : List Point) → Precedes run points → IsBefore (path_of_run run) (path_of_run (turns_at points))
before-precedes [] points h = absurd h
before-precedes (turn ∷ run) [] h = absurd h
before-precedes (turn ∷ run) (p ∷ points) h = elim h.1 [ inl lt ↦ inl lt | inr g ↦ inr (g.0, before-precedes run points g.1) ]

at_member : {X : Type 0} (P : X → Type 0) (xs : List X) (x : X) → In xs x → All P xs → P x
at_member P xs x m h = let r : Contains xs x = In-Contains xs x m in subst P r.2 (h r.0 x r.1)

-- the current run is added
pub runs-more : (runs : List Run) (c : Course) → IsThrough c → CameBy runs c → AreRuns (runs ++ turns c ∷ [])
runs-more runs c through h =
    let e : turns c ≡ turns_at c.points = turns-through c through in
    let A : Run → Type 0 = λ (r : Run). AllPairs Agree (runs ++ r ∷ []) in
    let B : Run → Type 0 = λ (r : Run). AllPairs (λ (a b : Run). IsBefore (path_of_run a) (path_of_run b)) (runs ++ r ∷ []) in
    record {
      agree = subst A (sym e) (all_pairs_push Agree runs (turns_at c.points) h.runs_are.agree (λ k d lt. agree-precedes (get_or runs k d) c.points (h.before k d lt)));
      in_order = subst B (sym e) (all_pairs_push (λ (a b : Run). IsBefore (path_of_run a) (path_of_run b)) runs (turns_at c.points) h.runs_are.in_order (λ k d lt. before-precedes (get_or runs k d) c.points (h.before k d lt)));
    }

pub came_by-next : (runs : List Run) (c new : Course) → IsThrough c → Advances c.points new.points → CameBy runs c → CameBy (runs ++ turns c ∷ []) new
came_by-next runs c new through a h =
    let R : List Point → Type 0 = λ (l : List Point). All (λ (point : Point). IsStrictlyIncreasing point.ready.items) l in
    let P : Point → Type 0 = λ (point : Point). IsStrictlyIncreasing point.ready.items in
    let rising : R (a.front ++ a.before ∷ a.tail) = subst R a.old_is h.rising in
    let here : P a.before = at_member P (a.front ++ a.before ∷ a.tail) a.before (In-right a.front (a.before ∷ a.tail) a.before (inl refl)) rising in
    let lt : chosen a.before < chosen a.after = chosen-bumps a.before a.after a.bumps a.within here in
    let L : List ℕ → Type 0 = λ (l : List ℕ). IsStrictlyIncreasing l in
    let next_rising : R (a.front ++ a.after ∷ []) = All-append P a.front (a.after ∷ [])
    (All-In P a.front (λ p m. at_member P (a.front ++ a.before ∷ a.tail) p (In-left a.front (a.before ∷ a.tail) p m) rising))
    (only P a.after (subst L (sym a.bumps.0) here)) in
    let B : List Point → List Point → Type 0 = λ (l m : List Point). All (λ (run : Run). Precedes run m) (runs ++ turns_at l ∷ []) in
    let O : List Point → Type 0 = λ (l : List Point). All (λ (run : Run). Precedes run l) runs in
    let old : O (a.front ++ a.before ∷ a.tail) = subst O a.old_is h.before in
    let all : All (λ (run : Run). Precedes run (a.front ++ a.after ∷ [])) (runs ++ turns_at (a.front ++ a.before ∷ a.tail) ∷ []) =
    All-append (λ (run : Run). Precedes run (a.front ++ a.after ∷ [])) runs (turns_at (a.front ++ a.before ∷ a.tail) ∷ [])
    (λ k d lt'. precedes-next (get_or runs k d) a.front a.before a.after a.tail a.bumps lt (old k d lt'))
    (only (λ (run : Run). Precedes run (a.front ++ a.after ∷ [])) (turns_at (a.front ++ a.before ∷ a.tail)) (precedes-self a.front a.before a.after a.tail a.bumps lt)) in
    let T : Run → Type 0 = λ (r : Run). All (λ (run : Run). Precedes run (a.front ++ a.after ∷ [])) (runs ++ r ∷ []) in
    let e : turns_at (a.front ++ a.before ∷ a.tail) ≡ turns c = ap turns_at (sym a.old_is) ∙ sym (turns-through c through) in
    let N : List Point → Type 0 = λ (l : List Point). All (λ (run : Run). Precedes run l) (runs ++ turns c ∷ []) in
    record {
      before = subst N (sym a.new_is) (subst T e all);
      rising = subst R (sym a.new_is) next_rising;
      runs_are = runs-more runs c through h;
    }

-- ---- the tree of the runs

some_is : {X : Type 0} (a b : X) → (let o : Option X = Some a in o) ≡ Some b → a ≡ b
some_is a b e = cc

-- what a run saw later, it saw after the same turn
seen_test : (same : Bool) (run : Run) (path x : List ℕ) (a b : ℕ) → nat_eq a b ≡ same → (if same then seen run path else None) ≡ Some x → (a ≡ b) × (seen run path ≡ Some x)
seen_test true run path x a b e h = (eqb-true a b e, h)
seen_test false run path x a b e h = cc

seen_behind : (turn : Turn) (run : Run) (who : ℕ) (path x : List ℕ) → seen (turn ∷ run) (who ∷ path) ≡ Some x → (turn.who ≡ who) × (seen run path ≡ Some x)
seen_behind turn run who path x h = seen_test (nat_eq turn.who who) run path x turn.who who refl h

seen-agree : (a b : Run) (path x y : List ℕ) → Agree a b → seen a path ≡ Some x → seen b path ≡ Some y → x ≡ y
seen-agree [] [] [] x y g p q = sym (some_is [] x p) ∙ some_is [] y q
seen-agree [] [] (w ∷ path) x y g p q = cc
seen-agree [] (t ∷ b) path x y g p q = absurd g
seen-agree (s ∷ a) [] path x y g p q = absurd g
seen-agree (s ∷ a) (t ∷ b) [] x y g p q = sym (some_is s.ready x p) ∙ g.0 ∙ some_is t.ready y q
seen-agree (s ∷ a) (t ∷ b) (w ∷ path) x y g p q =
    let u : (s.who ≡ w) × (seen a path ≡ Some x) = seen_behind s a w path x p in
    let v : (t.who ≡ w) × (seen b path ≡ Some y) = seen_behind t b w path y q in
    seen-agree a b path x y (g.1 (u.0 ∙ sym v.0)) u.1 v.1

-- what the first run saw is found; so is what a later run saw, if the first agrees with it
found_seen : (o : Option (List ℕ)) (x others : List ℕ) → o ≡ Some x → found_or o others ≡ x
found_seen o x others e = ap (λ (p : Option (List ℕ)). found_or p others) e

found_later : (o : Option (List ℕ)) (x others : List ℕ) → ((y : List ℕ) → o ≡ Some y → y ≡ x) → others ≡ x → found_or o others ≡ x
found_later (Some y) x others same e = same y refl
found_later None x others same e = e

tree_of-seen : (runs : List Run) (run : Run) (path x : List ℕ) → AllPairs Agree runs → In runs run → seen run path ≡ Some x → tree_of runs path ≡ x
tree_of-seen [] run path x agree m h = absurd m
tree_of-seen (r ∷ runs) run path x agree (inl e) h =
    found_seen (seen r path) x (tree_of runs path) (ap (λ (s : Run). seen s path) e ∙ h)
tree_of-seen (r ∷ runs) run path x agree (inr m) h =
    let k : Contains runs run = In-Contains runs run m in
    let A : Run → Type 0 = λ (s : Run). Agree r s in
    let g : Agree r run = subst A k.2 (agree 0 (suc k.0) run (omega arith) (omega (arith, k.1))) in
    found_later (seen r path) x (tree_of runs path) (λ y e. seen-agree r run path y x g e h)
    (tree_of-seen runs run path x (λ i j d lt le. agree (suc i) (suc j) d (omega arith) (omega arith)) m h)

-- a run is a run of every tree that has all that it saw
seen_here : (turn : Turn) (run : Run) (who : ℕ) (path : List ℕ) → turn.who ≡ who → seen (turn ∷ run) (who ∷ path) ≡ seen run path
seen_here turn run who path e = ap (λ (b : Bool). if b then seen run path else None) (eq-eqb turn.who who e)

run-seen : (tree : Tree) (path : List ℕ) (run : Run) → ((rest x : List ℕ) → seen run rest ≡ Some x → tree (path ++ rest) ≡ x) → IsRunFrom tree path run
run-seen tree path [] h = ap tree (sym (append-nil path)) ∙ h [] [] refl
run-seen tree path (turn ∷ run) h = (
  sym (ap tree (sym (append-nil path)) ∙ h [] turn.ready refl),
  run-seen tree (path ++ turn.who ∷ []) run
      (λ rest x e. ap tree (append_assoc path (turn.who ∷ []) rest) ∙ h (turn.who ∷ rest) x (seen_here turn run turn.who rest refl ∙ e)),
)

pub runs_have_a_tree : RunsHaveATree
runs_have_a_tree = λ runs agree. All-In (IsRun (tree_of runs)) runs
    (λ run m. run-seen (tree_of runs) [] run (λ rest x e. tree_of-seen runs run rest x agree m e))

-- ---- a walk

within-push : (tree : Tree) (path : List ℕ) (run : Run) (turn : Turn) → IsWithinFrom tree path (run ++ turn ∷ []) → IsWithinFrom tree path run × (turn.ready ≡ tree (path ++ path_of_run run))
within-push tree path [] turn h = (tt, h.0 ∙ ap tree (sym (append-nil path)))
within-push tree path (t ∷ run) turn h =
    let r : IsWithinFrom tree (path ++ t.who ∷ []) run × (turn.ready ≡ tree ((path ++ t.who ∷ []) ++ path_of_run run)) = within-push tree (path ++ t.who ∷ []) run turn h.1 in
    ((h.0, r.0), r.1 ∙ ap tree (append_assoc path (t.who ∷ []) (path_of_run run)))

run-within : (tree : Tree) (path : List ℕ) (run : Run) → IsRunFrom tree path run → IsWithinFrom tree path run × (tree (path ++ path_of_run run) ≡ [])
run-within tree path [] h = (tt, ap tree (append-nil path) ∙ h)
run-within tree path (t ∷ run) h =
    let r : IsWithinFrom tree (path ++ t.who ∷ []) run × (tree ((path ++ t.who ∷ []) ++ path_of_run run) ≡ []) = run-within tree (path ++ t.who ∷ []) run h.1 in
    ((h.0, r.0), sym (ap tree (append_assoc path (t.who ∷ []) (path_of_run run))) ∙ r.1)

pub path_of_run-turns : (c : Course) → path_of_run (turns c) ≡ taken c
path_of_run-turns c = path_of_run-turns_at (take c.depth c.points)

nothing : {X : Type 0} (P : X → Type 0) → All P []
nothing P = λ k d lt. absurd (omega arith)

no_pairs : {X : Type 0} (R : X → X → Type 0) → AllPairs R []
no_pairs R = λ i j d lt le. absurd (omega arith)

pub walk-open : (depth : ℕ) (c : Course) → c.points ≡ [] → IsWalk depth [] c
walk-open depth c e =
    let R : List Point → Type 0 = λ (l : List Point). All (λ (point : Point). IsStrictlyIncreasing point.ready.items) l in
    let came : CameBy [] c = record {
      before = nothing (λ (run : Run). Precedes run c.points);
      rising = subst R (sym e) (nothing (λ (point : Point). IsStrictlyIncreasing point.ready.items));
      runs_are = record { agree = no_pairs Agree; in_order = no_pairs (λ (a b : Run). IsBefore (path_of_run a) (path_of_run b)) };
    } in
    record { came_by = came; whole = λ tree each within. ap (left_from depth tree []) e }

pub walk-choose : (depth : ℕ) (runs : List Run) (old new : Course) (ready : List ℕ) (who : ℕ) → turns new ≡ turns old ++ record { ready = ready; who = who } ∷ [] → ((tree : Tree) → ready ≡ tree (taken old) → left depth tree new ≡ left depth tree old) → (CameBy runs old → CameBy runs new) → IsWalk depth runs old → IsWalk depth runs new
walk-choose depth runs old new ready who t same came w =
    record {
      came_by = came w.came_by;
      whole = λ tree each within.
          let P : Run → Type 0 = IsWithin tree in
          let r : IsWithinFrom tree [] (turns old) × (ready ≡ tree ([] ++ path_of_run (turns old))) = within-push tree [] (turns old) (record { ready = ready; who = who }) (subst P t within) in
          let e : left depth tree new ≡ left depth tree old = same tree (r.1 ∙ ap tree (path_of_run-turns old)) in
          ap (λ (l : List (List ℕ)). map path_of_run runs ++ l) e ∙ w.whole tree each r.0;
    }

map-push : (runs : List Run) (run : Run) (rest : List (List ℕ)) → map path_of_run (runs ++ run ∷ []) ++ rest ≡ map path_of_run runs ++ path_of_run run ∷ rest
map-push [] run rest = refl
map-push (r ∷ runs) run rest = ap (λ (l : List (List ℕ)). path_of_run r ∷ l) (map-push runs run rest)

-- the paths of a tree of which all runs, and the current one, are runs
told : (depth : ℕ) (runs : List Run) (c : Course) (rest : Tree → List (List ℕ)) → ((tree : Tree) → tree (taken c) ≡ [] → left depth tree c ≡ taken c ∷ rest tree) → IsWalk depth runs c → (tree : Tree) → All (IsRun tree) (runs ++ turns c ∷ []) → map path_of_run (runs ++ turns c ∷ []) ++ rest tree ≡ paths depth tree
told depth runs c rest leaf w tree each =
    let one : IsRun tree (turns c) = at_member (IsRun tree) (runs ++ turns c ∷ []) (turns c) (In-right runs (turns c ∷ []) (turns c) (inl refl)) each in
    let r : IsWithinFrom tree [] (turns c) × (tree ([] ++ path_of_run (turns c)) ≡ []) = run-within tree [] (turns c) one in
    let others : All (IsRun tree) runs = All-In (IsRun tree) runs (λ run m. at_member (IsRun tree) (runs ++ turns c ∷ []) run (In-left runs (turns c ∷ []) run m) each) in
    map-push runs (turns c) (rest tree)
    ∙ ap (λ (p : List ℕ). map path_of_run runs ++ p ∷ rest tree) (path_of_run-turns c)
    ∙ ap (λ (l : List (List ℕ)). map path_of_run runs ++ l) (sym (leaf tree (sym (ap tree (path_of_run-turns c)) ∙ r.1)))
    ∙ w.whole tree others r.0

pub walk-next : (depth : ℕ) (runs : List Run) (c new : Course) → ((tree : Tree) → tree (taken c) ≡ [] → left depth tree c ≡ taken c ∷ left depth tree new) → (CameBy runs c → CameBy (runs ++ turns c ∷ []) new) → IsWalk depth runs c → IsWalk depth (runs ++ turns c ∷ []) new
walk-next depth runs c new leaf came w =
    record {
      came_by = came w.came_by;
      whole = λ tree each within. told depth runs c (λ t. left depth t new) leaf w tree each;
    }

pub walk-done : (depth : ℕ) (runs : List Run) (c : Course) → ((tree : Tree) → tree (taken c) ≡ [] → left depth tree c ≡ taken c ∷ []) → (CameBy runs c → AreRuns (runs ++ turns c ∷ [])) → IsWalk depth runs c → AreAllRuns depth (runs ++ turns c ∷ [])
walk-done depth runs c leaf more w =
    let are : AreRuns (runs ++ turns c ∷ []) = more w.came_by in
    let tree : Tree = tree_of (runs ++ turns c ∷ []) in
    let each : All (IsRun (tree_of (runs ++ turns c ∷ []))) (runs ++ turns c ∷ []) = runs_have_a_tree (runs ++ turns c ∷ []) are.agree in
    record {
      tree = tree_of (runs ++ turns c ∷ []);
      each = each;
      all = sym (append-nil (map path_of_run (runs ++ turns c ∷ []))) ∙ told depth runs c (λ t. []) leaf w (tree_of (runs ++ turns c ∷ [])) each;
      in_order = are.in_order;
    }
