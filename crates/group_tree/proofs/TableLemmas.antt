-- What the tables say of the groups, and go on to once there is one more.
use Rattle.std.proofs.Common.{◌≡◌, ℕ, ◌+◌, ◌==◌, Bool, true, false, cond, if◌then◌else◌, ◌&&◌, List, [], ◌∷◌, ◌++◌, length, Option, Some, None, refl, sym, ap, ◌∙◌, arith}
use Rattle.std.specs.Prelude.{string_bytes}
use Rattle.std.specs.List.{position_from}
use Rattle.std.specs.Str.{bytes_eq}
use Rattle.std.specs.Map.{lookup}
use Rattle.std.specs.declared.string.String.{String}
use Rattle.std.specs.declared.alloc.Global.{Global}
use Rattle.std.proofs.lemmas.Iterator.Adapters.{position_from-zero}
use Rattle.std.proofs.lemmas.List.Sums.{sum_by-append, sum_by-cons}
use Rattle.std.proofs.lemmas.Bool.Decides.{nat_tests}
use Rattle.machine.specs.declared.id.GroupId.{GroupId}
use Rattle.machine.specs.Tree.{Node, is_at_path, live_groups, find_group}
use Rattle.group_tree.specs.Tables.{number, indexed}

pub live_groups-push : (tree : List Node) (x : Node) → x.live ≡ true → live_groups (tree ++ x ∷ []) ≡ live_groups tree + 1
live_groups-push tree x live =
    let sum : live_groups (tree ++ x ∷ []) ≡ live_groups tree + live_groups (x ∷ []) = sum_by-append (λ (y : Node). if y.live then 1 else 0) tree (x ∷ []) in
    let one : live_groups (x ∷ []) ≡ 1 = sum_by-cons (λ (y : Node). if y.live then 1 else 0) x [] ∙ ap (λ b. (if b then 1 else 0) + 0) live in
    omega (arith, sum, one)

-- the first, or the other where there is none
abbrev pub or_else : {X : Type 0} → Option X → Option X → Option X
or_else None other = other
or_else (Some x) other = Some x

first_or : {X : Type 0} (b : Bool) (x : X) (whole part other : Option X) → whole ≡ or_else part other → cond b (Some x) whole ≡ or_else (cond b (Some x) part) other
first_or true x whole part other h = refl
first_or false x whole part other h = h

position_from-push : (test : Node → Bool) (n : ℕ) (xs : List Node) (y : Node) → position_from test n (xs ++ y ∷ []) ≡ or_else (position_from test n xs) (cond (test y) (Some (n + length xs)) None)
position_from-push test n [] y = ap (λ m. cond (test y) (Some m) None) (let same : n ≡ n + 0 = omega arith in same)
position_from-push test n (x ∷ xs) y =
    first_or (test x) n (position_from test (n + 1) (xs ++ y ∷ [])) (position_from test (n + 1) xs) (cond (test y) (Some (n + length (x ∷ xs))) None)
    (position_from-push test (n + 1) xs y
    ∙ ap (λ m. or_else (position_from test (n + 1) xs) (cond (test y) (Some m) None)) (let same : n + 1 + length xs ≡ n + length (x ∷ xs) = omega arith in same))

-- the new group is found where none was
pub find_group-push : (tree : List Node) (x : Node) (path : List ℕ) → find_group (tree ++ x ∷ []) path ≡ or_else (find_group tree path) (cond (is_at_path path x) (Some (length tree)) None)
find_group-push tree x path =
    position_from-zero (is_at_path path) (tree ++ x ∷ []) ∙ position_from-push (is_at_path path) 0 tree x
    ∙ ap (λ m. or_else (position_from (is_at_path path) 0 tree) (cond (is_at_path path x) (Some m) None)) (let same : 0 + length tree ≡ length tree = omega arith in same)
    ∙ ap (λ at. or_else at (cond (is_at_path path x) (Some (length tree)) None)) (sym (position_from-zero (is_at_path path) tree))

lookup-push : (test : String Global → Bool) (index : List (String Global × GroupId)) (key : String Global) (id : GroupId)
    → lookup test (index ++ (key, id) ∷ []) ≡ or_else (lookup test index) (cond (test key) (Some id) None)
lookup-push test [] key id = refl
lookup-push test (e ∷ index) key id =
    first_or (test e.0) e.1 (lookup test (index ++ (key, id) ∷ [])) (lookup test index) (cond (test key) (Some id) None) (lookup-push test index key id)

number_or : (at other : Option GroupId) → number (or_else at other) ≡ or_else (number at) (number other)
number_or None other = refl
number_or (Some g) other = refl

number_cond : (b : Bool) (g : GroupId) → number (cond b (Some g) None) ≡ cond b (Some g.0) None
number_cond true g = refl
number_cond false g = refl

indexed-push : (index : List (String Global × GroupId)) (key : String Global) (id : GroupId) (path : List ℕ)
    → indexed (index ++ (key, id) ∷ []) path ≡ or_else (indexed index path) (cond (bytes_eq path (string_bytes key)) (Some id.0) None)
indexed-push index key id path =
    ap number (lookup-push (λ k. bytes_eq path (string_bytes k)) index key id)
    ∙ number_or (lookup (λ k. bytes_eq path (string_bytes k)) index) (cond (bytes_eq path (string_bytes key)) (Some id) None)
    ∙ ap (or_else (indexed index path)) (number_cond (bytes_eq path (string_bytes key)) id)

same_test : (x y : ℕ) → (x == y) ≡ (y == x)
same_test x y = grind (arith, nat_tests)

bytes_eq-comm : (xs ys : List ℕ) → bytes_eq xs ys ≡ bytes_eq ys xs
bytes_eq-comm [] [] = refl
bytes_eq-comm [] (y ∷ ys) = refl
bytes_eq-comm (x ∷ xs) [] = refl
bytes_eq-comm (x ∷ xs) (y ∷ ys) = ap (λ t. t && bytes_eq xs ys) (same_test x y) ∙ ap (λ t. y == x && t) (bytes_eq-comm xs ys)

pub bytes_eq-self : (xs : List ℕ) → bytes_eq xs xs ≡ true
bytes_eq-self [] = refl
bytes_eq-self (x ∷ xs) = let own : (x == x) ≡ true = grind (arith, nat_tests) in ap (λ t. t && bytes_eq xs xs) own ∙ bytes_eq-self xs

-- an index that finds what the tree does goes on to, once it has the new group's path and number
pub indexed-found : (tree : List Node) (x : Node) (index : List (String Global × GroupId)) (key : String Global) (id : GroupId) → x.live ≡ true → string_bytes key ≡ x.path → id.0 ≡ length tree
    → ((path : List ℕ) → indexed index path ≡ find_group tree path) → (path : List ℕ) → indexed (index ++ (key, id) ∷ []) path ≡ find_group (tree ++ x ∷ []) path
indexed-found tree x index key id live key_is id_is found path =
    let same : bytes_eq path (string_bytes key) ≡ is_at_path path x = ap (bytes_eq path) key_is ∙ bytes_eq-comm path x.path ∙ sym (ap (λ b. b && bytes_eq x.path path) live) in
    indexed-push index key id path ∙ ap (λ at. or_else at (cond (bytes_eq path (string_bytes key)) (Some id.0) None)) (found path)
    ∙ ap (λ b. or_else (find_group tree path) (cond b (Some id.0) None)) same ∙ ap (λ n. or_else (find_group tree path) (cond (is_at_path path x) (Some n) None)) id_is
    ∙ sym (find_group-push tree x path)
