-- What keeps a group from being made, and what follows where nothing does.
use Rattle.std.proofs.Common.{◌≡◌, ℕ, ◌<◌, ◌≤◌, Bool, true, false, not, ◌||◌, List, length, Option, Some, None, is_some, refl, sym, ap, ◌∙◌, arith, nat_lt, map}
use Rattle.std.specs.Prelude.{nat_le, IfSome, IsTrue}
use Rattle.std.proofs.lemmas.Bool.{and_parts, or_parts}
use Rattle.std.proofs.lemmas.Bool.Decides.{nat_tests}
use Rattle.std.proofs.lemmas.List.{length-map}
use Rattle.std.proofs.lemmas.List.Quantifiers.{position-Some}
use Rattle.machine.specs.declared.refusal.Refusal.{Refusal}
use Rattle.machine.specs.declared.refusal.Refusal.TheVariants.{Exists, NoSpace, Invalid}
use Rattle.machine.specs.declared.id.GroupId.{GroupId}
use Rattle.machine.specs.Names.{is_path, parent_path}
use Rattle.machine.specs.Tree.{Node, no_node, node_at, is_live, is_at_path, chain, live_groups, find_group}
use Rattle.machine.specs.Refusals.{first_cause, space_refusal, below_refusal, mkdir_refusal}
use Rattle.group_tree.specs.Tables.{number}

first_none : (t : Bool) (cause : Refusal) (others : Option Refusal) → first_cause t cause others ≡ None → (t ≡ false) × (others ≡ None)
first_none true cause others e = absurd cc
first_none false cause others e = (refl, e)

nothing_there : (o : Option ℕ) → is_some o ≡ false → o ≡ None
nothing_there None e = refl
nothing_there (Some x) e = absurd cc

-- there is room for a group below p
pub record HasRoom (tree : List Node) (p : ℕ) : Type 0 where
  pub few : live_groups tree < 256
  pub levels : length (chain tree (Some p)) ≤ 16

has_room : (tree : List Node) (p : ℕ) → space_refusal tree p ≡ None → HasRoom tree p
has_room tree p e =
    let tests = or_parts (nat_le 256 (live_groups tree)) (nat_lt 16 (length (chain tree (Some p)))) (first_none _ NoSpace None e).0 in
    let many = tests.0 in
    let deep = tests.1 in
    record { few = grind (arith, nat_tests, many); levels = grind (arith, nat_tests, deep) }

pub no_space : (tree : List Node) (p : ℕ) → 256 ≤ live_groups tree → Some NoSpace ≡ space_refusal tree p
no_space tree p many =
    let t : nat_le 256 (live_groups tree) ≡ true = grind (arith, nat_tests, many) in
    sym (ap (λ b. first_cause (b || nat_lt 16 (length (chain tree (Some p)))) NoSpace None) t)

pub too_deep : (tree : List Node) (p : ℕ) → live_groups tree < 256 → 16 < length (chain tree (Some p)) → Some NoSpace ≡ space_refusal tree p
too_deep tree p few deep =
    let t : nat_le 256 (live_groups tree) ≡ false = grind (arith, nat_tests, few) in
    let u : nat_lt 16 (length (chain tree (Some p))) ≡ true = grind (arith, nat_tests, deep) in
    sym (ap (λ b. first_cause (b || nat_lt 16 (length (chain tree (Some p)))) NoSpace None) t ∙ ap (λ b. first_cause b NoSpace None) u)

pub space : (tree : List Node) (p : ℕ) → live_groups tree < 256 → length (chain tree (Some p)) ≤ 16 → None ≡ space_refusal tree p
space tree p few levels =
    let t : nat_le 256 (live_groups tree) ≡ false = grind (arith, nat_tests, few) in
    let u : nat_lt 16 (length (chain tree (Some p))) ≡ false = grind (arith, nat_tests, levels) in
    sym (ap (λ b. first_cause (b || nat_lt 16 (length (chain tree (Some p)))) NoSpace None) t ∙ ap (λ b. first_cause b NoSpace None) u)

-- a path stands for a live group
pub found_live : (tree : List Node) (path : List ℕ) (p : ℕ) → find_group tree path ≡ Some p → is_live tree p ≡ true
found_live tree path p e = (and_parts (node_at tree p).live _ (position-Some (is_at_path path) tree p no_node e).1).0

-- nothing refuses a group of this path
pub record IsFree (tree : List Node) (path : List ℕ) : Type 0 where
  pub parent : ℕ
  pub found : find_group tree (parent_path path) ≡ Some parent
  pub absent : find_group tree path ≡ None
  pub room : HasRoom tree parent

free_below : (tree : List Node) (path : List ℕ) (at : Option ℕ) → find_group tree (parent_path path) ≡ at → below_refusal tree (λ g. false) path at ≡ None → IsFree tree path
free_below tree path None found e = absurd cc
free_below tree path (Some p) found e =
    let exists = first_none (is_some (find_group tree path)) Exists _ e in
    record { parent = p; found = found; absent = nothing_there _ exists.0; room = has_room tree p exists.1 }

pub IsFree-from : (tree : List Node) (path : List ℕ) → mkdir_refusal tree (λ g. false) path ≡ None → IsFree tree path
IsFree-from tree path e = free_below tree path _ refl (first_none (not (is_path path)) Invalid _ e).1

pub found_number_live : (tree : List Node) (path : List ℕ) (at : Option GroupId) → number at ≡ find_group tree path → IfSome at (λ g. IsTrue (is_live tree g.0))
found_number_live tree path None e = tt
found_number_live tree path (Some g) e = found_live tree path g.0 (sym e)

-- a chain is as long as the list that it is written in
pub chain_length : (tree : List Node) (p : ℕ) (items : List GroupId) → map (λ g. g.0) items ≡ chain tree (Some p) → length (chain tree (Some p)) ≡ length items
chain_length tree p items e =
    let same : length (map (λ g. g.0) items) ≡ length items = length-map _ _ in
    let whole = ap length e in
    omega (arith, same, whole)

-- a number that is some group's
pub is-found : (at : Option GroupId) (p : ℕ) → number at ≡ Some p → is_some at ≡ true
is-found None p e = absurd cc
is-found (Some g) p e = refl
