-- The group that is behind another, and the least size among groups, as a loop finds them; that turns agree if sizes do; and the round of a group that gives alone.
use Rattle.std.proofs.Common.{◌≡◌, ℕ, ◌==◌, ◌-◌, ◌&&◌, ◌||◌, nat_lt, Bool, true, false, if◌then◌else◌, List, [], ◌∷◌, ◌++◌, Option, Some, None, refl, sym, ap, ◌∙◌, arith}
use Rattle.std.specs.Prelude.{min, max, All, find}
use Rattle.std.specs.List.{list_any}
use Rattle.std.specs.Option.{option_eq}
use Rattle.std.proofs.lemmas.Bool.{and_right}
use Rattle.std.proofs.lemmas.Bool.Decides.{nat_tests}
use Rattle.std.proofs.lemmas.List.Elements.{All-head, All-tail}
use Rattle.machine.specs.declared.id.GroupId.{GroupId}
use Rattle.machine.specs.Tree.{Node, is_live, under, preorder}
use Rattle.machine.specs.Order.{Cursor, round_from, place_in, asked_of, served_by, least_of, greatest_of, unit_for, round_unit, in_turn, is_behind, new_turn, cursor_after}
use Rattle.group_tree.specs.Groups.{IsGroupTree}
use Rattle.group_tree.specs.Tables.{number}
use Rattle.reclaim.proofs.OnceLemmas.{walk-once, not_behind, comes-round, IsAlone}

pub behind-here : (g : ℕ) (walk rest : List ℕ) (a : ℕ) (is : Bool) → walk ≡ a ∷ rest → (a == g) ≡ is → list_any (λ b. b == g) walk ≡ (is || list_any (λ b. b == g) rest)
behind-here g walk rest a is same here = ap (list_any (λ b. b == g)) same ∙ ap (λ b. b || list_any (λ b. b == g) rest) here

pub least-on : (gives : ℕ → Bool) (size : ℕ → ℕ) (walk rest : List ℕ) (g n : ℕ) (is : Bool) → walk ≡ g ∷ rest → gives g ≡ is → least_of gives size walk n ≡ least_of gives size rest (if is then min (size g) n else n)
least-on gives size walk rest g n is same here = ap (λ (gs : List ℕ). least_of gives size gs n) same ∙ ap (λ b. least_of gives size rest (if b then min (size g) n else n)) here

pub greatest-on : (gives : ℕ → Bool) (size : ℕ → ℕ) (walk rest : List ℕ) (g n : ℕ) (is : Bool) → walk ≡ g ∷ rest → gives g ≡ is → greatest_of gives size walk n ≡ greatest_of gives size rest (if is then max (size g) n else n)
greatest-on gives size walk rest g n is same here = ap (λ (gs : List ℕ). greatest_of gives size gs n) same ∙ ap (λ b. greatest_of gives size rest (if b then max (size g) n else n)) here

-- ---- turns agree where it agrees who gives, and how large each group is
module _ (gives gives' : ℕ → Bool) (size size' : ℕ → ℕ) where
  least-agree : (gs : List ℕ) (n : ℕ) → All (λ g. gives g ≡ gives' g) gs → All (λ g. size g ≡ size' g) gs → least_of gives size gs n ≡ least_of gives' size' gs n
  least-agree [] n ones sizes = refl
  least-agree (g ∷ gs) n ones sizes =
      ap (λ k. least_of gives size gs k)
      (ap (λ b. if b then min (size g) n else n) (All-head (λ a. gives a ≡ gives' a) g gs ones) ∙ ap (λ k. if gives' g then min k n else n) (All-head (λ a. size a ≡ size' a) g gs sizes))
      ∙ least-agree gs (if gives' g then min (size' g) n else n) (All-tail (λ a. gives a ≡ gives' a) g gs ones) (All-tail (λ a. size a ≡ size' a) g gs sizes)

  greatest-agree : (gs : List ℕ) (n : ℕ) → All (λ g. gives g ≡ gives' g) gs → All (λ g. size g ≡ size' g) gs → greatest_of gives size gs n ≡ greatest_of gives' size' gs n
  greatest-agree [] n ones sizes = refl
  greatest-agree (g ∷ gs) n ones sizes =
      ap (λ k. greatest_of gives size gs k)
      (ap (λ b. if b then max (size g) n else n) (All-head (λ a. gives a ≡ gives' a) g gs ones) ∙ ap (λ k. if gives' g then max k n else n) (All-head (λ a. size a ≡ size' a) g gs sizes))
      ∙ greatest-agree gs (if gives' g then max (size' g) n else n) (All-tail (λ a. gives a ≡ gives' a) g gs ones) (All-tail (λ a. size a ≡ size' a) g gs sizes)

  pub cursor-agree : (parts : Bool) (tree : List Node) (target : ℕ) (cursor : Cursor) (g : ℕ) → All (λ a. gives a ≡ gives' a) (preorder tree target) → All (λ a. size a ≡ size' a) (preorder tree target) → size g ≡ size' g
      → cursor_after parts tree gives size target cursor g ≡ cursor_after parts tree gives' size' target cursor g
  cursor-agree false tree target cursor g ones sizes own = refl
  cursor-agree true tree target cursor g ones sizes own =
      ap (λ k. if on then goes else new_turn g k (round_unit tree gives size target cursor g)) own ∙ ap (λ r. if on then goes else new_turn g (size' g) r) unit
    where
      on : Bool
      on = list_any (λ a. a == g) (in_turn true tree target cursor)

      goes : Cursor
      goes = record { group = Some g; left = cursor.left - 1; unit = cursor.unit }

      all : List ℕ
      all = preorder tree target

      unit : round_unit tree gives size target cursor g ≡ round_unit tree gives' size' target cursor g
      unit =
          ap (λ k. if nat_lt 0 cursor.unit && is_behind tree target cursor.group g then cursor.unit else unit_for k (greatest_of gives size all (size g)))
          (ap (λ n. least_of gives size all n) own ∙ least-agree all (size' g) ones sizes)
          ∙ ap (λ k. if nat_lt 0 cursor.unit && is_behind tree target cursor.group g then cursor.unit else unit_for (least_of gives' size' all (size' g)) k)
          (ap (λ n. greatest_of gives size all n) own ∙ greatest-agree all (size' g) ones sizes)

-- a group is not behind itself
pub behind-own : (tree : List Node) → IsGroupTree tree → (target : ℕ) → is_live tree target ≡ true → (last : Option ℕ) (g : ℕ) → last ≡ Some g → is_behind tree target last g ≡ false
behind-own tree groups target live last g own = ap (λ (at : Option ℕ). is_behind tree target at g) own ∙ not_behind (preorder tree target) g (walk-once tree groups target live)

-- the group that was served last is this one, by any test of equality
pub served-last : (eq : GroupId → GroupId → Bool) → ((a b : GroupId) → eq a b ≡ (a.0 == b.0)) → (last : Option GroupId) (g : GroupId) → option_eq eq last (Some g) ≡ true → number last ≡ Some g.0
served-last eq same None g is = absurd cc
served-last eq same (Some a) g is = let hit = sym (same a g) ∙ is in let one : a.0 ≡ g.0 = grind (arith, nat_tests, hit) in ap Some one

-- ---- a group that gives alone
module _ (test : ℕ → Bool) (size : ℕ → ℕ) (g : ℕ) where
  -- its size is the least
  least-alone : (gs : List ℕ) → IsAlone g test gs → least_of test size gs (size g) ≡ size g
  least-alone [] alone = refl
  least-alone (a ∷ gs) alone =
      ap (λ (n : ℕ). least_of test size gs n) (by_test (test a) (All-head (λ b. test b ≡ true → b ≡ g) a gs alone)) ∙ least-alone gs (All-tail (λ b. test b ≡ true → b ≡ g) a gs alone)
    where
      by_test : (b : Bool) → (b ≡ true → a ≡ g) → (if b then min (size a) (size g) else size g) ≡ size g
      by_test false same = refl
      by_test true same = ap (λ n. min (size n) (size g)) (same refl) ∙ (let one : min (size g) (size g) ≡ size g = omega arith in one)

  -- and the greatest
  greatest-alone : (gs : List ℕ) → IsAlone g test gs → greatest_of test size gs (size g) ≡ size g
  greatest-alone [] alone = refl
  greatest-alone (a ∷ gs) alone =
      ap (λ (n : ℕ). greatest_of test size gs n) (by_test (test a) (All-head (λ b. test b ≡ true → b ≡ g) a gs alone)) ∙ greatest-alone gs (All-tail (λ b. test b ≡ true → b ≡ g) a gs alone)
    where
      by_test : (b : Bool) → (b ≡ true → a ≡ g) → (if b then max (size a) (size g) else size g) ≡ size g
      by_test false same = refl
      by_test true same = ap (λ n. max (size n) (size g)) (same refl) ∙ (let one : max (size g) (size g) ≡ size g = omega arith in one)

  module _ (tree : List Node) (groups : IsGroupTree tree) (target : ℕ) (live : is_live tree target ≡ true) (cursor : Cursor) (own : cursor.group ≡ Some g) where
    -- if it was served last, a round begins, since it is not behind itself
    begins-round : round_unit tree test size target cursor g ≡ unit_for (least_of test size (preorder tree target) (size g)) (greatest_of test size (preorder tree target) (size g))
    begins-round =
        ap (λ b. if nat_lt 0 cursor.unit && b then cursor.unit else began) (behind-own tree groups target live cursor.group g own)
        ∙ ap (λ b. if b then cursor.unit else began) (and_right (nat_lt 0 cursor.unit) false refl)
      where
        began : ℕ
        began = unit_for (least_of test size (preorder tree target) (size g)) (greatest_of test size (preorder tree target) (size g))

    -- if its turn does not go on, none does
    none-on : (parts : Bool) → list_any (λ a. a == g) (in_turn parts tree target cursor) ≡ false → in_turn parts tree target cursor ≡ []
    none-on parts over = named ∙ by_tests (parts && nat_lt 0 cursor.left) (is_live tree g && under tree target g) (sym (ap (list_any (λ a. a == g)) named) ∙ over)
      where
        named : in_turn parts tree target cursor ≡ (if parts && nat_lt 0 cursor.left then asked_of tree target (Some g) else [])
        named = ap (λ last. if parts && nat_lt 0 cursor.left then asked_of tree target last else []) own

        by_tests : (on asked : Bool) → list_any (λ a. a == g) (if on then (if asked then g ∷ [] else []) else []) ≡ false → (if on then (if asked then g ∷ [] else []) else []) ≡ []
        by_tests true true over = absurd (let same : (g == g) ≡ true = grind arith in let wrong : true ≡ false = sym (ap (λ b. b || false) same) ∙ over in cc)
        by_tests true false over = refl
        by_tests false asked over = refl

    -- the pass came round to the group: the unit of the round is its size
    pub alone-unit : (parts : Bool) → list_any (λ a. a == g) (in_turn parts tree target cursor) ≡ false → served_by parts tree test target cursor ≡ Some g → round_unit tree test size target cursor g ≡ max (size g) 1
    alone-unit parts over serves =
        let walk = preorder tree target in
        let alone = comes-round walk g (walk-once tree groups target live) test
        (ap (λ last. find test (round_from walk (place_in walk last))) (sym own) ∙ ap (λ on. find test (on ++ round_from walk (place_in walk cursor.group))) (sym (none-on parts over)) ∙ serves) in
        begins-round ∙ ap (λ n. unit_for n (greatest_of test size walk (size g))) (least-alone walk alone) ∙ ap (λ n. unit_for (size g) n) (greatest-alone walk alone)
        ∙ (let most : unit_for (size g) (size g) ≡ max (size g) 1 = omega arith in most)
