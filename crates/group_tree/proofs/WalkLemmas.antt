-- A walk from a group up to the root.
use Rattle.std.proofs.Common.{List, [], ◌∷◌, ◌++◌, length, map, append_assoc, append-nil, length-append, ◌≡◌, ℕ, ◌<◌, ◌==◌, true, false, ◌||◌, Option, Some, None, refl, sym, ap, ◌∙◌, arith}
use Rattle.std.proofs.lemmas.Bool.Decides.{nat_tests}
use Rattle.std.specs.List.{list_any}
use Rattle.std.proofs.lemmas.List.{map-append, length-map}
use Rattle.machine.specs.declared.id.GroupId.{GroupId}
use Rattle.machine.specs.Tree.{Node, node_at, IsTree, under_at, chain, chain_up}
use Rattle.group_tree.specs.Tables.{number}
use Rattle.machine.proofs.TreeLemmas.{under_at-step, chain-step}

pub under_here : (tree : List Node) (a g : ℕ) → (g == a) ≡ true → under_at tree a (Some g) ≡ true
unfolding under_at chain chain_up
under_here tree a g same =
    let t : (a == g) ≡ true = grind (arith, nat_tests, same) in
    ap (λ b. b || list_any (λ x. a == x) (chain_up g tree (node_at tree g).parent)) t

pub under_nothing : (tree : List Node) (a : ℕ) → under_at tree a None ≡ false
unfolding under_at chain
under_nothing tree a = refl

-- a group other than a is under a if its parent is
pub under_parent : (tree : List Node) → IsTree tree → (a g : ℕ) → (g == a) ≡ false → under_at tree a (Some g) ≡ under_at tree a (node_at tree g).parent
under_parent tree is a g differs =
    let t : (a == g) ≡ false = grind (arith, nat_tests, differs) in
    under_at-step tree is a g ∙ ap (λ b. b || under_at tree a (node_at tree g).parent) t

-- a chain begins with its group
chain_from : (tree : List Node) → IsTree tree → (g : ℕ) (at : Option ℕ) → at ≡ (node_at tree g).parent → g ∷ chain tree at ≡ chain tree (Some g)
chain_from tree is g at e = ap (λ o. g ∷ chain tree o) e ∙ sym (chain-step tree is g)

-- the groups walked over, and then one more
pub walked_more : (tree : List Node) → IsTree tree → (walked : List GroupId) (here : GroupId) (next : Option GroupId) → number next ≡ (node_at tree here.0).parent
    → map (λ g. g.0) (walked ++ here ∷ []) ++ chain tree (number next) ≡ map (λ g. g.0) walked ++ chain tree (Some here.0)
walked_more tree is walked here next e =
    ap (λ xs. xs ++ chain tree (number next)) (map-append _ _ _)
    ∙ append_assoc (map (λ g. g.0) walked) (here.0 ∷ []) (chain tree (number next))
    ∙ ap (λ xs. map (λ g. g.0) walked ++ xs) (chain_from tree is here.0 (number next) e)

-- while a group is left, fewer were walked over than the chain has
pub walked_fewer : (tree : List Node) → IsTree tree → (walked : List GroupId) (here : GroupId) (whole : List ℕ) → map (λ g. g.0) walked ++ chain tree (Some here.0) ≡ whole → length walked < length whole
walked_fewer tree is walked here whole e =
    let parts : length (map (λ g. g.0) walked ++ chain tree (Some here.0)) ≡ length whole = ap length e in
    let sum = length-append (map (λ g. g.0) walked) (chain tree (Some here.0)) in
    let same : length (map (λ g. g.0) walked) ≡ length walked = length-map _ _ in
    let first : length (here.0 ∷ chain tree (node_at tree here.0).parent) ≡ length (chain tree (Some here.0)) = ap length (chain_from tree is here.0 _ refl) in
    omega (arith, parts, sum, same, first)

pub walked_all : (tree : List Node) (walked : List GroupId) → map (λ g. g.0) walked ++ chain tree None ≡ map (λ g. g.0) walked
unfolding chain
walked_all tree walked = append-nil (map (λ g. g.0) walked)
