use Rattle.std.proofs.Common.{◌≡◌, ◌∙◌, ℕ, Bool, List, Option, Some, None, true, false, sym, ap, subst, arith}
use Rattle.std.specs.Prelude.{IfSome, IfNone, is_some}
use Rattle.machine.specs.Tree.{is_live, under}
use Rattle.machine.specs.Generations.{Gens}
use Rattle.group_tree.proofs.LineageLemmas.{live-within}
use Rattle.machine.specs.State.{is_swap_free}
use Rattle.machine.specs.Order.{Cursor, served_first, cursor_at}
use Rattle.page_state.specs.States.{StateOf}
use Rattle.page_state.specs.Joined.{joined_of}
use Rattle.reclaim.specs.declared.cursors.Served.{Served}
use Rattle.page_state.proofs.NextLemmas.{listed_by, listed_old_by, NoneListedBy, Found, turn-is, passes-low, one-is, none-is}
use Rattle.page_state.proofs.joined.State.next_group.Goals as goal

pub next_group-requires : goal.next_group-requires
next_group-requires c =
    let live = subst (λ (s : StateOf). is_live s.tables.tree c.args.target.0 ≡ true) (sym c.self.view_is) c.requires in
    let within = live-within c.self.inside.tree c.args.target.0 live in
    let all = c.self.invariant.cursors in
    omega (arith, within, all)

-- what holds of it by three facts, where there is one
in_some : {A B C D : Served → Type 0} (o : Option Served) → IfSome o A → IfSome o B → IfSome o C → ((s : Served) → A s → B s → C s → D s) → IfSome o D
in_some None a b c all = tt
in_some (Some s) a b c all = all s a b c

with_it : {A D : Served → Type 0} (o : Option Served) → IfSome o A → ((s : Served) → A s → D s) → IfSome o D
with_it None a all = tt
with_it (Some s) a all = all s a

-- and what holds whether there is one or not
some_or_none : {A : Served → Type 0} {B : Type 0} (o : Option Served) (b : Bool) → IfSome o A → IfNone o B → ((s : Served) → A s → b ≡ true) → (B → b ≡ false) → is_some o ≡ b
some_or_none None b a n some none = sym (none n)
some_or_none (Some s) b a n some none = sym (some s a)

module _ (c : goal.After-next_group) where
  live : is_live c.self.inside.tree c.args.target.0 ≡ true
  live = subst (λ (s : StateOf). is_live s.tables.tree c.args.target.0 ≡ true) (sym c.self.view_is) c.requires

  swap : c.has_swap-swap_free.result ≡ is_swap_free (joined_of c.self.inside).tables
  swap = subst (λ (s : StateOf). c.has_swap-swap_free.result ≡ is_swap_free s.tables) (sym c.self.view_is) c.has_swap-swap_free.ensures

  recursive : c.is_recursive-recursive.result ≡ (joined_of c.self.inside).tables.opening.recursive
  recursive = subst (λ (s : StateOf). c.is_recursive-recursive.result ≡ s.tables.opening.recursive) (sym c.self.view_is) c.is_recursive-recursive.ensures

  -- by these lists a group gives a page
  abbrev listed : Bool → List Gens → Bool → Bool → ℕ → Bool
  listed = listed_by c.self.inside c.self.invariant c.groups_form_a_tree.ensures.earlier_parents c.args.target.0

  abbrev listed_old : Bool → List Gens → List Bool → Bool → Bool → ℕ → Bool
  listed_old = listed_old_by c.self.inside c.self.invariant c.groups_form_a_tree.ensures.earlier_parents c.args.target.0

  abbrev none_listed : Bool → List Gens → Bool → Bool → Type 0
  none_listed = NoneListedBy c.self.inside c.self.invariant c.groups_form_a_tree.ensures.earlier_parents c.args.target.0

  -- what the pass goes by is what the table has
  by_table : (P : Bool → List Gens → List Bool → Bool → Type 0) → P c.is_recursive-recursive.result c.gens.result.now.groups c.marks.result.now c.has_swap-swap_free.result
      → P (joined_of c.self.inside).tables.opening.recursive c.self.inside.parts.held.lists.groups c.self.inside.parts.held.lists.marks (is_swap_free (joined_of c.self.inside).tables)
  by_table P h =
      subst (λ (b : Bool). P (joined_of c.self.inside).tables.opening.recursive c.self.inside.parts.held.lists.groups c.self.inside.parts.held.lists.marks b) swap
      (subst (λ (ms : List Bool). P (joined_of c.self.inside).tables.opening.recursive c.self.inside.parts.held.lists.groups ms c.has_swap-swap_free.result) c.marks.ensures.marks
      (subst (λ (gs : List Gens). P (joined_of c.self.inside).tables.opening.recursive gs c.marks.result.now c.has_swap-swap_free.result) c.gens.ensures.groups
      (subst (λ (r : Bool). P r c.gens.result.now.groups c.marks.result.now c.has_swap-swap_free.result) recursive h)))

  abbrev last : Cursor
  last = cursor_at c.self.inside.cursors.cursors c.args.target.0

  abbrev IsFound : Served → Type 0
  IsFound = Found c.self.inside c.self.invariant c.groups_form_a_tree.ensures.earlier_parents c.args.target.0 c.heeds_age-heeds_age.result c.takes_parts-takes_parts.result last

  abbrev pass : Bool → List Gens → List Bool → Bool → Served → Type 0
  pass r gs ms b s = (served_first c.heeds_age-heeds_age.result c.takes_parts-takes_parts.result c.self.inside.tree (listed_old r gs ms b s.low_reclaim) (listed r gs b s.low_reclaim) c.args.target.0 last ≡ Some s.group.0) × (s.low_reclaim ≡ true → none_listed r gs b false) × (is_live c.self.inside.tree s.group.0 ≡ true) × (under c.self.inside.tree c.args.target.0 s.group.0 ≡ true) × (listed r gs b s.low_reclaim s.group.0 ≡ true)

  passed : IfSome c.next_group.result (pass c.is_recursive-recursive.result c.gens.result.now.groups c.marks.result.now c.has_swap-swap_free.result)
  passed = in_some c.next_group.result c.next_group.ensures.group c.next_group.ensures.spared c.next_group.ensures.giver (λ s group spared giver. (group, spared, giver.live, giver.below, giver.gives))

  found : IfSome c.next_group.result IsFound
  found = by_result c.next_group.result passed
    where
      by_result : (o : Option Served) → IfSome o (pass c.is_recursive-recursive.result c.gens.result.now.groups c.marks.result.now c.has_swap-swap_free.result) → IfSome o IsFound
      by_result None is = tt
      by_result (Some s) is =
          let told = by_table (λ r gs ms b. pass r gs ms b s) is in
          record { turn = told.0; live = told.2; below = told.3; given = told.4; spared = told.1 }

  none : IfNone c.next_group.result (none_listed (joined_of c.self.inside).tables.opening.recursive c.self.inside.parts.held.lists.groups (is_swap_free (joined_of c.self.inside).tables) true)
  none = by_table (λ r gs ms b. IfNone c.next_group.result (none_listed r gs b true)) c.next_group.ensures.none

pub returns-clause-next : goal.returns-clause-next
returns-clause-next c =
    rw (← c.self.view_is, ← c.heeds_age-heeds_age.ensures, ← c.takes_parts-takes_parts.ensures)
    (with_it c.next_group.result (found c) (λ s is. turn-is c.self.inside c.self.invariant c.groups_form_a_tree.ensures.earlier_parents c.args.target.0 c.groups_form_a_tree.ensures (live c) c.heeds_age-heeds_age.result c.takes_parts-takes_parts.result (last c) s is))

pub returns-clause-live : goal.returns-clause-live
returns-clause-live c = rw (← c.self.view_is) (with_it c.next_group.result (found c) (λ s is. is.live))

pub returns-clause-low : goal.returns-clause-low
returns-clause-low c =
    rw (← c.self.view_is)
    (with_it c.next_group.result (found c) (λ s is. passes-low c.self.inside c.self.invariant c.groups_form_a_tree.ensures.earlier_parents c.args.target.0 c.groups_form_a_tree.ensures (live c) c.heeds_age-heeds_age.result c.takes_parts-takes_parts.result (last c) s is))

pub returns-clause-takeable : goal.returns-clause-takeable
returns-clause-takeable c =
    rw (← c.self.view_is)
    (some_or_none c.next_group.result _ (found c) (none c)
    (λ s is. one-is c.self.inside c.self.invariant c.groups_form_a_tree.ensures.earlier_parents c.args.target.0 c.groups_form_a_tree.ensures (live c) c.heeds_age-heeds_age.result c.takes_parts-takes_parts.result (last c) s is)
    (none-is c.self.inside c.self.invariant c.groups_form_a_tree.ensures.earlier_parents c.args.target.0))
