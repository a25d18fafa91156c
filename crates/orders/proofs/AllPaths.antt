-- The paths that are listed are those of the tree, all of them, each once, in order.
use Rattle.std.proofs.Common.{◌≡◌, ℕ, zero, suc, ◌<◌, ◌≤◌, List, [], ◌∷◌, ◌++◌, length, flat_map, inl, inr, refl, sym, ◌∙◌, subst, arith, append_assoc, append-nil}
use Rattle.std.specs.List.Sorted.{IsStrictlyIncreasing}
use Rattle.orders.specs.Paths.{Tree, alone_or, paths_from, paths, IsWayFrom, IsPathFrom, IsPath, IsBefore, IsRising, PathsAreThePaths}
use Rattle.orders.proofs.Members.{In, In-Contains, Contains-In, In-flat_map, flat_map-In, All-In, Pairs, Pairs-append, AllPairs-Pairs, first-below, tail_increasing}

-- no way after this path is longer
abbrev IsNoDeeperFrom : ℕ → Tree → List ℕ → Type 0
IsNoDeeperFrom depth tree path = (way : List ℕ) → IsWayFrom tree path way → length way ≤ depth

-- a whole path that begins with this one
abbrev GoesOn : Tree → List ℕ → List ℕ → Type 0
GoesOn tree path whole = (rest : List ℕ) × (whole ≡ path ++ rest) × IsPathFrom tree path rest

further : (depth : ℕ) (tree : Tree) (path : List ℕ) (who : ℕ) → IsNoDeeperFrom (suc depth) tree path → In (tree path) who → IsNoDeeperFrom depth tree (path ++ who ∷ [])
further depth tree path who flat h = λ way w. let le : suc (length way) ≤ suc depth = flat (who ∷ way) (In-Contains (tree path) who h, w) in omega arith

-- at the greatest depth no actor is ready
nobody : (tree : Tree) (path ready : List ℕ) → tree path ≡ ready → IsNoDeeperFrom zero tree path → tree path ≡ []
nobody tree path [] e flat = e
nobody tree path (c ∷ cs) e flat =
    let P : List ℕ → Type 0 = λ (l : List ℕ). In l c in
    let le : 1 ≤ 0 = flat (c ∷ []) (In-Contains (tree path) c (subst P (sym e) (inl refl)), tt) in
    absurd (omega arith)

-- ---- each is a path

sound_at : (depth : ℕ) (tree : Tree) (path ready : List ℕ) → tree path ≡ ready → ((who : ℕ) → In (tree path) who → (whole : List ℕ) → In (paths_from depth tree (path ++ who ∷ [])) whole → GoesOn tree (path ++ who ∷ []) whole) → (whole : List ℕ) → In (alone_or path ready (flat_map (λ (who : ℕ). paths_from depth tree (path ++ who ∷ [])) ready)) whole → GoesOn tree path whole
sound_at depth tree path [] e below whole (inl q) = ([], sym q ∙ sym (append-nil path), e)
sound_at depth tree path [] e below whole (inr h) = absurd h
sound_at depth tree path (c ∷ cs) e below whole h =
    let f : ℕ → List (List ℕ) = λ (who : ℕ). paths_from depth tree (path ++ who ∷ []) in
    let s : (who : ℕ) × In (c ∷ cs) who × In (f who) whole = In-flat_map f (c ∷ cs) whole h in
    let P : List ℕ → Type 0 = λ (l : List ℕ). In l s.0 in
    let m : In (tree path) s.0 = subst P (sym e) s.1 in
    let g : GoesOn tree (path ++ s.0 ∷ []) whole = below s.0 m whole s.2 in
    (s.0 ∷ g.0, g.1 ∙ append_assoc path (s.0 ∷ []) g.0, (In-Contains (tree path) s.0 m, g.2))

sound : (depth : ℕ) (tree : Tree) (path : List ℕ) → IsNoDeeperFrom depth tree path → (whole : List ℕ) → In (paths_from depth tree path) whole → GoesOn tree path whole
sound zero tree path flat whole (inl e) = ([], sym e ∙ sym (append-nil path), nobody tree path (tree path) refl flat)
sound zero tree path flat whole (inr h) = absurd h
sound (suc depth) tree path flat whole h =
    sound_at depth tree path (tree path) refl (λ who m w g. sound depth tree (path ++ who ∷ []) (further depth tree path who flat m) w g) whole h

-- ---- each path is listed

complete_at : (depth : ℕ) (tree : Tree) (path ready rest : List ℕ) → tree path ≡ ready → length rest ≤ suc depth → IsPathFrom tree path rest → ((who : ℕ) (rest : List ℕ) → length rest ≤ depth → IsPathFrom tree (path ++ who ∷ []) rest → In (paths_from depth tree (path ++ who ∷ [])) ((path ++ who ∷ []) ++ rest)) → In (alone_or path ready (flat_map (λ (who : ℕ). paths_from depth tree (path ++ who ∷ [])) ready)) (path ++ rest)
complete_at depth tree path [] [] e le p below = inl (sym (append-nil path))
complete_at depth tree path (c ∷ cs) [] e le p below = cc (e, p)
complete_at depth tree path [] (who ∷ rest) e le p below =
    let P : List ℕ → Type 0 = λ (l : List ℕ). In l who in
    absurd (subst P e (Contains-In (tree path) who p.0))
complete_at depth tree path (c ∷ cs) (who ∷ rest) e le p below =
    let f : ℕ → List (List ℕ) = λ (w : ℕ). paths_from depth tree (path ++ w ∷ []) in
    let P : List ℕ → Type 0 = λ (l : List ℕ). In l who in
    let m : In (c ∷ cs) who = subst P e (Contains-In (tree path) who p.0) in
    let g : In (f who) ((path ++ who ∷ []) ++ rest) = below who rest (omega arith) p.1 in
    let Q : List ℕ → Type 0 = λ (l : List ℕ). In (flat_map f (c ∷ cs)) l in
    subst Q (append_assoc path (who ∷ []) rest) (flat_map-In f (c ∷ cs) who ((path ++ who ∷ []) ++ rest) m g)

complete : (depth : ℕ) (tree : Tree) (path rest : List ℕ) → length rest ≤ depth → IsPathFrom tree path rest → In (paths_from depth tree path) (path ++ rest)
complete zero tree path [] le p = inl (sym (append-nil path))
complete zero tree path (who ∷ rest) le p = absurd (omega arith)
complete (suc depth) tree path rest le p =
    complete_at depth tree path (tree path) rest refl le p (λ who r l q. complete depth tree (path ++ who ∷ []) r l q)

-- a path is a way
way_of_path : (tree : Tree) (path rest : List ℕ) → IsPathFrom tree path rest → IsWayFrom tree path rest
way_of_path tree path [] p = tt
way_of_path tree path (who ∷ rest) p = (p.0, way_of_path tree (path ++ who ∷ []) rest p.1)

-- ---- in order

before_at : (path : List ℕ) (a b : ℕ) (r s : List ℕ) → a < b → IsBefore (path ++ a ∷ r) (path ++ b ∷ s)
before_at [] a b r s lt = inl lt
before_at (c ∷ path) a b r s lt = inr (refl, before_at path a b r s lt)

before : (path : List ℕ) (a b : ℕ) (tree : Tree) (x y : List ℕ) → a < b → GoesOn tree (path ++ a ∷ []) x → GoesOn tree (path ++ b ∷ []) y → IsBefore x y
before path a b tree x y lt g h =
    let ex : path ++ a ∷ g.0 ≡ x = sym (g.1 ∙ append_assoc path (a ∷ []) g.0) in
    let ey : path ++ b ∷ h.0 ≡ y = sym (h.1 ∙ append_assoc path (b ∷ []) h.0) in
    let P : List ℕ → Type 0 = λ (l : List ℕ). IsBefore l y in
    let Q : List ℕ → Type 0 = λ (l : List ℕ). IsBefore (path ++ a ∷ g.0) l in
    subst P ex (subst Q ey (before_at path a b g.0 h.0 lt))

ordered_by : (depth : ℕ) (tree : Tree) (path ready : List ℕ) → ((who : ℕ) → In ready who → In (tree path) who) → IsStrictlyIncreasing ready → IsNoDeeperFrom (suc depth) tree path → ((who : ℕ) → In (tree path) who → Pairs IsBefore (paths_from depth tree (path ++ who ∷ []))) → Pairs IsBefore (flat_map (λ (who : ℕ). paths_from depth tree (path ++ who ∷ [])) ready)
ordered_by depth tree path [] among increasing flat below = tt
ordered_by depth tree path (c ∷ cs) among increasing flat below =
    let f : ℕ → List (List ℕ) = λ (w : ℕ). paths_from depth tree (path ++ w ∷ []) in
    let here : IsNoDeeperFrom depth tree (path ++ c ∷ []) = further depth tree path c flat (among c (inl refl)) in
    Pairs-append IsBefore (f c) (flat_map f cs)
    (below c (among c (inl refl)))
    (ordered_by depth tree path cs (λ w h. among w (inr h)) (tail_increasing c cs increasing) flat below)
    (λ x y hx hy.
    let s : (who : ℕ) × In cs who × In (f who) y = In-flat_map f cs y hy in
    before path c s.0 tree x y (first-below c cs increasing s.0 s.1)
    (sound depth tree (path ++ c ∷ []) here x hx)
    (sound depth tree (path ++ s.0 ∷ []) (further depth tree path s.0 flat (among s.0 (inr s.1))) y s.2))

ordered_at : (depth : ℕ) (tree : Tree) (path ready : List ℕ) → Pairs IsBefore (flat_map (λ (who : ℕ). paths_from depth tree (path ++ who ∷ [])) ready) → Pairs IsBefore (alone_or path ready (flat_map (λ (who : ℕ). paths_from depth tree (path ++ who ∷ [])) ready))
ordered_at depth tree path [] by = (λ y h. absurd h, tt)
ordered_at depth tree path (c ∷ cs) by = by

ordered : (depth : ℕ) (tree : Tree) (path : List ℕ) → IsRising tree → IsNoDeeperFrom depth tree path → Pairs IsBefore (paths_from depth tree path)
ordered zero tree path rising flat = (λ y h. absurd h, tt)
ordered (suc depth) tree path rising flat =
    ordered_at depth tree path (tree path)
    (ordered_by depth tree path (tree path) (λ who h. h) (rising path) flat (λ who m. ordered depth tree (path ++ who ∷ []) rising (further depth tree path who flat m)))

pub paths_are_the_paths : PathsAreThePaths
paths_are_the_paths = λ depth tree flat rising. record {
  paths = All-In (IsPath tree) (paths depth tree) (λ whole h.
      let g : GoesOn tree [] whole = sound depth tree [] flat whole h in
      let P : List ℕ → Type 0 = IsPath tree in subst P (sym g.1) g.2);
  all = λ path p. In-Contains (paths depth tree) path (complete depth tree [] path (flat path (way_of_path tree [] path p)) p);
  in_order = AllPairs-Pairs IsBefore (paths depth tree) (ordered depth tree [] rising flat);
}
