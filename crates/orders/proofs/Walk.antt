-- How a new point, and the step to the next path, change the paths that are left.
use Rattle.std.proofs.Common.{◌≡◌, ℕ, zero, suc, ◌+◌, ◌<◌, ◌≤◌, List, [], ◌∷◌, ◌++◌, length, get_or, take, drop, Bool, true, false, refl, sym, ◌∙◌, ap, subst, append_assoc, append-nil, arith, drop-cons, slice_index, flat_map, add-one, ap₂, set, length-append, if◌then◌else◌}
use Rattle.std.proofs.Math.Seq.{take-length}
use Rattle.orders.specs.declared.point.Point.{Point}
use Rattle.orders.specs.Paths.{Tree, alone_or, paths_from, paths_by}
use Rattle.orders.specs.Course.{Course, chosen, later, path_of, taken, left_from, left, FollowsFrom, Follows, IsThrough, HeadIs, IsKnown, IsOther, Adds, AreLast, Bumps, Advances, HasLater}

-- ---- the path

pub path_of-append : (xs ys : List Point) → path_of (xs ++ ys) ≡ path_of xs ++ path_of ys
path_of-append [] ys = refl
path_of-append (x ∷ xs) ys = ap (λ (l : List ℕ). chosen x ∷ l) (path_of-append xs ys)

pub length-path_of : (xs : List Point) → length (path_of xs) ≡ length xs
length-path_of [] = refl
length-path_of (x ∷ xs) = ap (λ (n : ℕ). suc n) (length-path_of xs)

-- the path with a new point
pub path_of-take : (is : Point → Type 0) (xs : List Point) (d : ℕ) → HeadIs is (drop d xs) → (x : Point) × is x × (path_of (take (suc d) xs) ≡ path_of (take d xs) ++ chosen x ∷ [])
path_of-take is [] zero h = absurd h
path_of-take is [] (suc d) h = absurd h
path_of-take is (x ∷ xs) zero h = (x, h, refl)
path_of-take is (x ∷ xs) (suc d) h =
    let r : (y : Point) × is y × (path_of (take (suc d) xs) ≡ path_of (take d xs) ++ chosen y ∷ []) = path_of-take is xs d h in
    (r.0, r.1, ap (λ (l : List ℕ). chosen x ∷ l) r.2)

-- a path that goes on after a point
pub behind : (p : List ℕ) (x : Point) (l : List ℕ) → (p ++ chosen x ∷ []) ++ l ≡ p ++ chosen x ∷ l
behind p x l = append_assoc p (chosen x ∷ []) l

-- ---- ready actors

-- at a point that follows a tree, only the actors of the tree are ready
pub no_others : (tree : Tree) (ready : List ℕ) (p : List ℕ) (xs : List Point) (d : ℕ) → FollowsFrom tree p xs → HeadIs (λ (x : Point). x.ready.items ≡ ready → ⊥) (drop d xs) → ready ≡ tree (p ++ path_of (take d xs)) → ⊥
no_others tree ready p [] zero f h e = absurd h
no_others tree ready p [] (suc d) f h e = absurd h
no_others tree ready p (x ∷ xs) zero f h e = h (f.0 ∙ sym (e ∙ ap tree (append-nil p)))
no_others tree ready p (x ∷ xs) (suc d) f h e =
    no_others tree ready (p ++ chosen x ∷ []) xs d f.1 h (e ∙ ap tree (sym (behind p x (path_of (take d xs)))))

pub follows-push : (tree : Tree) (p : List ℕ) (xs : List Point) (x : Point) → FollowsFrom tree p xs → x.ready.items ≡ tree (p ++ path_of xs) → FollowsFrom tree p (xs ++ x ∷ [])
follows-push tree p [] x f e = (e ∙ ap tree (append-nil p), tt)
follows-push tree p (y ∷ ys) x f e =
    (f.0, follows-push tree (p ++ chosen y ∷ []) ys x f.1 (e ∙ ap tree (sym (behind p y (path_of ys)))))

-- ---- a new point

alone_or-some : (p r : List ℕ) (further : List (List ℕ)) → 0 < length r → alone_or p r further ≡ further
alone_or-some p [] further h = absurd (omega arith)
alone_or-some p (c ∷ r) further h = refl

alone_or-none : (p r : List ℕ) (further : List (List ℕ)) → r ≡ [] → alone_or p r further ≡ p ∷ []
alone_or-none p [] further h = refl
alone_or-none p (c ∷ r) further h = cc

-- the first actor and the later ones are all
all_from_first : (f : ℕ → List (List ℕ)) (r : List ℕ) (at : ℕ) → at ≡ 0 → at < length r → f (slice_index r at) ++ flat_map f (drop (at + 1) r) ≡ flat_map f r
all_from_first f [] at e h = absurd (omega arith)
all_from_first f (c ∷ r) at e h = rw e refl

pub left-push : (tree : Tree) (m : ℕ) (p : List ℕ) (xs : List Point) (x : Point) → length xs < m → x.at ≡ 0 → x.at < length x.ready.items → x.ready.items ≡ tree (p ++ path_of xs) → left_from m tree p (xs ++ x ∷ []) ≡ left_from m tree p xs
left-push tree zero p xs x lt at within e = absurd (omega arith)
left-push tree (suc m) p [] x lt at within e =
    let f : ℕ → List (List ℕ) = λ (who : ℕ). paths_from m tree (p ++ who ∷ []) in
    let r : x.ready.items ≡ tree p = e ∙ ap tree (append-nil p) in
    let some : 0 < length (tree p) = subst (λ (l : List ℕ). 0 < length l) r (omega arith) in
    all_from_first f x.ready.items x.at at within ∙ ap (λ (l : List ℕ). flat_map f l) r ∙ sym (alone_or-some p (tree p) (flat_map f (tree p)) some)
left-push tree (suc m) p (y ∷ ys) x lt at within e =
    ap (λ (l : List (List ℕ)). l ++ paths_by m tree p (later y))
    (left-push tree m (p ++ chosen y ∷ []) ys x (omega arith) at within (e ∙ ap tree (sym (behind p y (path_of ys)))))

-- ---- the step to the next path

-- a leaf after points with no later actor
pub left-lasts : (tree : Tree) (n : ℕ) (p : List ℕ) (xs : List Point) → AreLast xs → length xs ≤ n → tree (p ++ path_of xs) ≡ [] → left_from n tree p xs ≡ (p ++ path_of xs) ∷ []
left-lasts tree zero p [] last le leaf = ap (λ (l : List ℕ). l ∷ []) (sym (append-nil p))
left-lasts tree (suc n) p [] last le leaf =
    alone_or-none p (tree p) (flat_map (λ (who : ℕ). paths_from n tree (p ++ who ∷ [])) (tree p)) (sym (ap tree (append-nil p)) ∙ leaf)
    ∙ ap (λ (l : List ℕ). l ∷ []) (sym (append-nil p))
left-lasts tree zero p (x ∷ xs) last le leaf = absurd (omega arith)
left-lasts tree (suc n) p (x ∷ xs) last le leaf =
    let e : left_from n tree (p ++ chosen x ∷ []) xs ≡ ((p ++ chosen x ∷ []) ++ path_of xs) ∷ [] =
    left-lasts tree n (p ++ chosen x ∷ []) xs last.1 (omega arith) (ap tree (behind p x (path_of xs)) ∙ leaf) in
    ap (λ (l : List (List ℕ)). l ++ paths_by n tree p (later x)) e
    ∙ ap (λ (l : List ℕ). (((p ++ chosen x ∷ []) ++ path_of xs) ∷ []) ++ flat_map (λ (who : ℕ). paths_from n tree (p ++ who ∷ [])) l) last.0
    ∙ ap (λ (l : List ℕ). l ∷ []) (behind p x (path_of xs))

-- the actors later than this one are the next, and those later than the next
later-bumps : (x y : Point) → Bumps x y → y.at < length y.ready.items → later x ≡ chosen y ∷ later y
later-bumps x y b within =
    let e : drop (x.at + 1) x.ready.items ≡ drop y.at y.ready.items =
    ap (λ (n : ℕ). drop n x.ready.items) (sym b.1) ∙ ap (λ (l : List ℕ). drop y.at l) (sym b.0) in
    e ∙ drop-cons y.ready.items y.at 0 within ∙ ap (λ (n : ℕ). get_or y.ready.items y.at 0 ∷ drop n y.ready.items) (sym (add-one y.at))

pub left-next : (tree : Tree) (n : ℕ) (p : List ℕ) (front : List Point) (x y : Point) (tail : List Point) → Bumps x y → y.at < length y.ready.items → AreLast tail → length (front ++ x ∷ tail) ≤ n → tree (p ++ path_of (front ++ x ∷ tail)) ≡ [] → left_from n tree p (front ++ x ∷ tail) ≡ (p ++ path_of (front ++ x ∷ tail)) ∷ left_from n tree p (front ++ y ∷ [])
left-next tree zero p [] x y tail b within last le leaf = absurd (omega arith)
left-next tree zero p (w ∷ front) x y tail b within last le leaf = absurd (omega arith)
left-next tree (suc n) p [] x y tail b within last le leaf =
    let q : List ℕ = p ++ chosen x ∷ [] in
    let e : left_from n tree (p ++ chosen x ∷ []) tail ≡ ((p ++ chosen x ∷ []) ++ path_of tail) ∷ [] =
    left-lasts tree n (p ++ chosen x ∷ []) tail last (omega arith) (ap tree (behind p x (path_of tail)) ∙ leaf) in
    ap (λ (l : List (List ℕ)). l ++ paths_by n tree p (later x)) e
    ∙ ap (λ (l : List ℕ). ((p ++ chosen x ∷ []) ++ path_of tail) ∷ flat_map (λ (who : ℕ). paths_from n tree (p ++ who ∷ [])) l) (later-bumps x y b within)
    ∙ ap (λ (l : List ℕ). l ∷ left_from (suc n) tree p (y ∷ [])) (behind p x (path_of tail))
left-next tree (suc n) p (w ∷ front) x y tail b within last le leaf =
    let q : List ℕ = p ++ chosen w ∷ [] in
    let e : left_from n tree q (front ++ x ∷ tail) ≡ (q ++ path_of (front ++ x ∷ tail)) ∷ left_from n tree q (front ++ y ∷ []) =
    left-next tree n q front x y tail b within last (omega arith) (ap tree (behind p w (path_of (front ++ x ∷ tail))) ∙ leaf) in
    ap (λ (l : List (List ℕ)). l ++ paths_by n tree p (later w)) e
    ∙ ap (λ (l : List ℕ). l ∷ left_from (suc n) tree p (w ∷ front ++ y ∷ [])) (behind p w (path_of (front ++ x ∷ tail)))

pub follows-next : (tree : Tree) (p : List ℕ) (front : List Point) (x y : Point) (tail : List Point) → Bumps x y → FollowsFrom tree p (front ++ x ∷ tail) → FollowsFrom tree p (front ++ y ∷ [])
follows-next tree p [] x y tail b f = (b.0 ∙ f.0, tt)
follows-next tree p (w ∷ front) x y tail b f = (f.0, follows-next tree (p ++ chosen w ∷ []) front x y tail b f.1)

-- ---- the same of a course

pub taken-through : (c : Course) → IsThrough c → taken c ≡ path_of c.points
taken-through c through = ap (λ (n : ℕ). path_of (take n c.points)) through ∙ ap path_of (take-length c.points)

pub taken-known : (old : Course) (ready : List ℕ) (who : ℕ) (new : Course) → IsKnown old ready who → new ≡ record old { depth = old.depth + 1 } → taken new ≡ taken old ++ who ∷ []
taken-known old ready who new known e =
    let r : (x : Point) × ((x.ready.items ≡ ready) × (who ≡ chosen x)) × (path_of (take (suc old.depth) old.points) ≡ path_of (take old.depth old.points) ++ chosen x ∷ []) =
    path_of-take (λ (x : Point). (x.ready.items ≡ ready) × (who ≡ chosen x)) old.points old.depth known in
    ap taken e ∙ ap (λ (n : ℕ). path_of (take n old.points)) (add-one old.depth) ∙ r.2 ∙ ap (λ (w : ℕ). taken old ++ w ∷ []) (sym r.1.1)

pub no_others-known : (old : Course) (ready : List ℕ) → IsOther old ready → (tree : Tree) → Follows tree old → ready ≡ tree (taken old) → ⊥
no_others-known old ready other tree follows e = no_others tree ready [] old.points old.depth follows other e

pub taken-adds : (old : Course) (ready : List ℕ) (who : ℕ) (new : Course) → Adds old ready who new → taken new ≡ taken old ++ who ∷ []
taken-adds old ready who new a =
    let through : IsThrough new = a.depth ∙ sym (ap (λ (l : List Point). length l) a.points ∙ length-append old.points (a.point ∷ [])) in
    taken-through new through ∙ ap path_of a.points ∙ path_of-append old.points (a.point ∷ [])
    ∙ ap₂ (λ (l : List ℕ) (w : ℕ). l ++ w ∷ []) (sym (taken-through old a.through)) (sym a.who_is)

pub left-adds : (old : Course) (ready : List ℕ) (who : ℕ) (new : Course) → Adds old ready who new → (depth : ℕ) (tree : Tree) → length (taken old) < depth → ready ≡ tree (taken old) → left depth tree new ≡ left depth tree old
left-adds old ready who new a depth tree lt e =
    let t : taken old ≡ path_of old.points = taken-through old a.through in
    let n : length (taken old) ≡ length old.points = ap (λ (l : List ℕ). length l) t ∙ length-path_of old.points in
    let lt' : length old.points < depth = omega arith in
    ap (left_from depth tree []) a.points
    ∙ left-push tree depth [] old.points a.point lt' a.first a.within (a.ready_is ∙ e ∙ ap tree t)

pub follows-adds : (old : Course) (ready : List ℕ) (who : ℕ) (new : Course) → Adds old ready who new → (tree : Tree) → Follows tree old → ready ≡ tree (taken old) → Follows tree new
follows-adds old ready who new a tree follows e =
    let at : FollowsFrom tree [] (old.points ++ a.point ∷ []) = follows-push tree [] old.points a.point follows (a.ready_is ∙ e ∙ ap tree (taken-through old a.through)) in
    let P : List Point → Type 0 = FollowsFrom tree [] in subst P (sym a.points) at

pub left-advances : (c : Course) → IsThrough c → (more : Bool) (new : List Point) → (more ≡ true → Advances c.points new) → (more ≡ false → AreLast c.points × (new ≡ [])) → (depth : ℕ) (tree : Tree) → length (taken c) ≤ depth → tree (taken c) ≡ [] → left depth tree c ≡ taken c ∷ (if more then left_from depth tree [] new else [])
left-advances c through true new advances over depth tree le leaf =
    let a : Advances c.points new = advances refl in
    let t : taken c ≡ path_of c.points = taken-through c through in
    let p : taken c ≡ path_of (a.front ++ a.before ∷ a.tail) = t ∙ ap path_of a.old_is in
    let n : length (taken c) ≡ length (a.front ++ a.before ∷ a.tail) = ap (λ (l : List ℕ). length l) p ∙ length-path_of (a.front ++ a.before ∷ a.tail) in
    let le' : length (a.front ++ a.before ∷ a.tail) ≤ depth = omega arith in
    ap (left_from depth tree []) a.old_is
    ∙ left-next tree depth [] a.front a.before a.after a.tail a.bumps a.within a.lasts le' (sym (ap tree p) ∙ leaf)
    ∙ ap₂ (λ (l : List ℕ) (ls : List (List ℕ)). l ∷ ls) (sym p) (ap (left_from depth tree []) (sym a.new_is))
left-advances c through false new advances over depth tree le leaf =
    let o : AreLast c.points × (new ≡ []) = over refl in
    let t : taken c ≡ path_of c.points = taken-through c through in
    let n : length (taken c) ≡ length c.points = ap (λ (l : List ℕ). length l) t ∙ length-path_of c.points in
    let le' : length c.points ≤ depth = omega arith in
    left-lasts tree depth [] c.points o.0 le' (sym (ap tree t) ∙ leaf) ∙ ap (λ (l : List ℕ). l ∷ []) (sym t)

pub follows-advances : (c : Course) (more : Bool) (new : List Point) → (more ≡ true → Advances c.points new) → (more ≡ false → AreLast c.points × (new ≡ [])) → (tree : Tree) → Follows tree c → FollowsFrom tree [] new
follows-advances c true new advances over tree follows =
    let a : Advances c.points new = advances refl in
    let P : List Point → Type 0 = FollowsFrom tree [] in
    subst P (sym a.new_is) (follows-next tree [] a.front a.before a.after a.tail a.bumps (subst P a.old_is follows))
follows-advances c false new advances over tree follows =
    let o : AreLast c.points × (new ≡ []) = over refl in
    let P : List Point → Type 0 = FollowsFrom tree [] in subst P (sym o.1) tt

-- ---- the step, as the code makes it

pub advances-set : (xs : List Point) (i : ℕ) (x y : Point) → i < length xs → get_or (take (suc i) xs) i x ≡ x → Bumps x y → HeadIs HasLater (drop i xs) → AreLast (drop (suc i) xs) → Advances xs (set (take (suc i) xs) i y)
advances-set [] i x y lt e b more lasts = absurd (omega arith)
advances-set (w ∷ xs) zero x y lt e b more lasts =
    let B : Point → Type 0 = λ (v : Point). Bumps v y in
    let c : Bumps w y = subst B (sym e) b in
    let n : length y.ready.items ≡ length w.ready.items = ap (λ (l : List ℕ). length l) c.0 in
    let within : y.at < length y.ready.items = omega arith in
    record { front = []; before = w; after = y; tail = xs; old_is = refl; new_is = refl; bumps = c; within = within; lasts = lasts }
advances-set (w ∷ xs) (suc i) x y lt e b more lasts =
    let a : Advances xs (set (take (suc i) xs) i y) = advances-set xs i x y (omega arith) e b more lasts in
    record { front = w ∷ a.front; before = a.before; after = a.after; tail = a.tail; old_is = ap (λ (l : List Point). w ∷ l) a.old_is; new_is = ap (λ (l : List Point). w ∷ l) a.new_is; bumps = a.bumps; within = a.within; lasts = a.lasts }

-- the same if this many points are kept
pub advances-kept : (xs kept : List Point) (k i : ℕ) (x y : Point) → k ≡ suc i → k ≤ length xs → kept ≡ take k xs → x ≡ get_or kept i x → Bumps x y → HeadIs HasLater (drop i xs) → AreLast (drop k xs) → Advances xs (set kept i y)
advances-kept xs kept k i x y e le kept_is x_is b more lasts =
    let whole : kept ≡ take (suc i) xs = kept_is ∙ ap (λ (n : ℕ). take n xs) e in
    let L : ℕ → Type 0 = λ (n : ℕ). AreLast (drop n xs) in
    let at : get_or (take (suc i) xs) i x ≡ x = ap (λ (l : List Point). get_or l i x) (sym whole) ∙ sym x_is in
    let A : List Point → Type 0 = λ (l : List Point). Advances xs (set l i y) in
    subst A (sym whole) (advances-set xs i x y (omega arith) at b more (subst L e lasts))

pub adds-push : (old new : Course) (ready : List ℕ) (who : ℕ) (x : Point) (was : List Point) → IsThrough old → 0 < length ready → was ≡ old.points → new.points ≡ was ++ x ∷ [] → new.depth ≡ old.depth + 1 → x.at ≡ 0 → x.ready.items ≡ ready → who ≡ get_or ready 0 0 → Adds old ready who new
adds-push old new ready who x was through some was_is points depth first ready_is who_is =
    let len : length x.ready.items ≡ length ready = ap (λ (l : List ℕ). length l) ready_is in
    let within : x.at < length x.ready.items = omega arith in
    record {
      through = through;
      point = x;
      within = within;
      ready_is = ready_is;
      first = first;
      who_is = who_is ∙ ap₂ (λ (l : List ℕ) (n : ℕ). get_or l n 0) (sym ready_is) (sym first);
      points = points ∙ ap (λ (l : List Point). l ++ x ∷ []) was_is;
      depth = depth ∙ ap (λ (n : ℕ). n + 1) through;
    }

-- ---- a path is always left

some_below : (p r : List ℕ) (f : ℕ → List (List ℕ)) → ((who : ℕ) → 0 < length (f who)) → 0 < length (alone_or p r (flat_map f r))
some_below p [] f some = omega arith
some_below p (c ∷ r) f some = omega (arith, some c, length-append (f c) (flat_map f r))

pub paths_from-some : (depth : ℕ) (tree : Tree) (p : List ℕ) → 0 < length (paths_from depth tree p)
paths_from-some zero tree p = omega arith
paths_from-some (suc depth) tree p =
    some_below p (tree p) (λ (who : ℕ). paths_from depth tree (p ++ who ∷ [])) (λ who. paths_from-some depth tree (p ++ who ∷ []))

-- wherever a walk is, a path is left
pub left_from-some : (depth : ℕ) (tree : Tree) (p : List ℕ) (xs : List Point) → 0 < length (left_from depth tree p xs)
left_from-some depth tree p [] = paths_from-some depth tree p
left_from-some zero tree p (x ∷ xs) = omega arith
left_from-some (suc depth) tree p (x ∷ xs) =
    omega (arith, left_from-some depth tree (p ++ chosen x ∷ []) xs, length-append (left_from depth tree (p ++ chosen x ∷ []) xs) (paths_by depth tree p (later x)))
