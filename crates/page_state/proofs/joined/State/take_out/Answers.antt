use Rattle.std.proofs.Common.{◌≡◌, ◌∙◌, not, Bool, List, Some, true, ap, subst, sym, arith}
use Rattle.std.specs.Prelude.{slice_set}
use Rattle.machine.specs.declared.record.Guard.TheVariants.{Low}
use Rattle.machine.specs.Tree.{is_live}
use Rattle.machine.specs.Protection.{setting_of, is_beyond}
use Rattle.machine.specs.Order.{Cursor, cursor_at, cursor_after}
use Rattle.machine.specs.State.{is_swap_free}
use Rattle.machine.specs.Slots.{there_and}
use Rattle.machine.specs.Pages.{is_held}
use Rattle.machine.specs.Generations.{Gens, gens_at}
use Rattle.machine.specs.Eviction.{has_usable}
use Rattle.machine.specs.Lists.{served, cursor_served}
use Rattle.group_tree.proofs.LineageLemmas.{live-within}
use Rattle.page_counter.specs.Counts.{usage_of}
use Rattle.held_pages.proofs.PickLemmas.{usable-within}
use Rattle.page_state.specs.States.{StateOf}
use Rattle.page_state.specs.Joined.{joined_of}
use Rattle.page_state.proofs.NextLemmas.{listed_by, given-usable}
use Rattle.page_state.proofs.TurnLemmas.{serves-listed, turn-after}
use Rattle.page_state.proofs.LeaveLemmas.{picks-of, agree-searched, leaves-swap, joined-left, takes-page}
use Rattle.page_state.proofs.joined.State.take_out.Goals as goal

module _ (c : goal.After-take_out) where
  serves : served (joined_of c.self.inside).tables (joined_of c.self.inside).order c.args.goal c.args.target.0 ≡ Some c.args.group.0
  serves = subst (λ (s : StateOf). served s.tables s.order c.args.goal c.args.target.0 ≡ Some c.args.group.0) (sym c.self.view_is) c.requires.next

  live : is_live c.self.inside.tree c.args.target.0 ≡ true
  live = subst (λ (s : StateOf). is_live s.tables.tree c.args.target.0 ≡ true) (sym c.self.view_is) c.requires.live

  swap : c.has_swap-swap_free.result ≡ is_swap_free (joined_of c.self.inside).tables
  swap = subst (λ (s : StateOf). c.has_swap-swap_free.result ≡ is_swap_free s.tables) (sym c.self.view_is) c.has_swap-swap_free.ensures

  recursive : c.is_recursive-recursive.result ≡ (joined_of c.self.inside).tables.opening.recursive
  recursive = subst (λ (s : StateOf). c.is_recursive-recursive.result ≡ s.tables.opening.recursive) (sym c.self.view_is) c.is_recursive-recursive.ensures

  -- whose turn it is by these lists
  abbrev turn : Bool → List Gens → Bool → Bool → Cursor
  turn r gs b parts =
      cursor_after parts c.self.inside.tree
      (listed_by c.self.inside c.self.invariant c.groups_form_a_tree.ensures.earlier_parents c.args.target.0 r gs b (not (is_beyond r c.self.inside.tree (setting_of Low c.self.inside.parts.counters.limits) (usage_of c.self.inside.parts.counters) c.args.target.0 c.args.group.0)))
      (usage_of c.self.inside.parts.counters) c.args.target.0 (cursor_at c.self.inside.cursors.cursors c.args.target.0) c.args.group.0

  moves : c.serve.new.self.cursors ≡ slice_set c.self.inside.cursors.cursors c.args.target.0 (cursor_served (joined_of c.self.inside).tables (joined_of c.self.inside).order c.args.goal c.args.target.0 c.args.group.0)
  moves =
      c.serve.ensures.cursors
      ∙ ap (λ (to : Cursor). slice_set c.self.inside.cursors.cursors c.args.target.0 to)
      (ap (λ (r : Bool). turn r c.gens.result.now.groups c.has_swap-swap_free.result c.takes_parts-takes_parts.result) recursive
      ∙ ap (λ (gs : List Gens). turn (joined_of c.self.inside).tables.opening.recursive gs c.has_swap-swap_free.result c.takes_parts-takes_parts.result) c.gens.ensures.groups
      ∙ ap (λ (b : Bool). turn (joined_of c.self.inside).tables.opening.recursive c.self.inside.parts.held.lists.groups b c.takes_parts-takes_parts.result) swap
      ∙ ap (λ (parts : Bool). turn (joined_of c.self.inside).tables.opening.recursive c.self.inside.parts.held.lists.groups (is_swap_free (joined_of c.self.inside).tables) parts) c.takes_parts-takes_parts.ensures
      ∙ turn-after c.self.inside c.self.invariant c.groups_form_a_tree.ensures c.args.goal c.args.target.0 c.args.group.0 live serves)

pub serve-requires-clause-cursor : goal.serve-requires-clause-cursor
serve-requires-clause-cursor c =
    let live = subst (λ (s : StateOf). is_live s.tables.tree c.args.target.0 ≡ true) (sym c.self.view_is) c.requires.live in
    let within = live-within c.self.inside.tree c.args.target.0 live in
    let all = c.self.invariant.cursors in
    omega (arith, within, all)

pub serve-requires-clause-served : goal.serve-requires-clause-served
serve-requires-clause-served c =
    let live = subst (λ (s : StateOf). is_live s.tables.tree c.args.target.0 ≡ true) (sym c.self.view_is) c.requires.live in
    let serves = subst (λ (s : StateOf). served s.tables s.order c.args.goal c.args.target.0 ≡ Some c.args.group.0) (sym c.self.view_is) c.requires.next in
    let swap = subst (λ (s : StateOf). c.has_swap-swap_free.result ≡ is_swap_free s.tables) (sym c.self.view_is) c.has_swap-swap_free.ensures in
    let recursive = subst (λ (s : StateOf). c.is_recursive-recursive.result ≡ s.tables.opening.recursive) (sym c.self.view_is) c.is_recursive-recursive.ensures in
    serves-listed c.self.inside c.self.invariant c.groups_form_a_tree.ensures c.args.goal c.args.target.0 c.args.group.0 live serves
    c.is_recursive-recursive.result c.gens.result.now.groups c.marks.result.now c.has_swap-swap_free.result c.heeds_age-heeds_age.result c.takes_parts-takes_parts.result
    recursive c.gens.ensures.groups c.marks.ensures.marks swap c.heeds_age-heeds_age.ensures c.takes_parts-takes_parts.ensures

pub pick-page-requires-clause-group : goal.pick-page-requires-clause-group
pick-page-requires-clause-group c =
    let s = c.self.inside in
    let serves = subst (λ (s : StateOf). served s.tables s.order c.args.goal c.args.target.0 ≡ Some c.args.group.0) (sym c.self.view_is) c.requires.next in
    usable-within (is_swap_free (joined_of s).tables) s.parts.held.lists.groups c.args.group.0 (given-usable (joined_of s).tables c.args.target.0 c.args.group.0 (joined_of s).order c.args.goal serves c.self.invariant.agree.held)

pub pick-page-requires-clause-usable : goal.pick-page-requires-clause-usable
pick-page-requires-clause-usable c =
    let s = c.self.inside in
    let serves = subst (λ (s : StateOf). served s.tables s.order c.args.goal c.args.target.0 ≡ Some c.args.group.0) (sym c.self.view_is) c.requires.next in
    let swap = subst (λ (s : StateOf). c.has_swap-swap_free.result ≡ is_swap_free s.tables) (sym c.self.view_is) c.has_swap-swap_free.ensures in
    subst (λ (b : Bool). has_usable b (gens_at s.parts.held.lists.groups c.args.group.0) ≡ true) (sym swap)
    (given-usable (joined_of s).tables c.args.target.0 c.args.group.0 (joined_of s).order c.args.goal serves c.self.invariant.agree.held)

pub take_out-requires-clause-agree : goal.take_out-requires-clause-agree
take_out-requires-clause-agree c =
    let s = c.self.inside in
    let serves = subst (λ (s : StateOf). served s.tables s.order c.args.goal c.args.target.0 ≡ Some c.args.group.0) (sym c.self.view_is) c.requires.next in
    let swap = subst (λ (s : StateOf). c.has_swap-swap_free.result ≡ is_swap_free s.tables) (sym c.self.view_is) c.has_swap-swap_free.ensures in
    let picked = c.pick-page.ensures in
    let picks = picks-of s c.self.invariant c.pick-page.new.self c.args.group.0 c.pick-page.result.0 c.has_swap-swap_free.result swap picked.picked picked.listed picked.rows picked.ages picked.others in
    agree-searched s c.self.invariant c.are_generations.ensures.generations c.args.goal c.args.target.0 c.args.group.0 serves c.pick-page.new.self c.pick-page.result.0 picks

pub take_out-requires-clause-held : goal.take_out-requires-clause-held
take_out-requires-clause-held c =
    let s = c.self.inside in
    let serves = subst (λ (s : StateOf). served s.tables s.order c.args.goal c.args.target.0 ≡ Some c.args.group.0) (sym c.self.view_is) c.requires.next in
    let swap = subst (λ (s : StateOf). c.has_swap-swap_free.result ≡ is_swap_free s.tables) (sym c.self.view_is) c.has_swap-swap_free.ensures in
    let picked = c.pick-page.ensures in
    let picks = picks-of s c.self.invariant c.pick-page.new.self c.args.group.0 c.pick-page.result.0 c.has_swap-swap_free.result swap picked.picked picked.listed picked.rows picked.ages picked.others in
    ap (there_and is_held) picks.stands

pub take_out-requires-clause-swap : goal.take_out-requires-clause-swap
take_out-requires-clause-swap c =
    let s = c.self.inside in
    let serves = subst (λ (s : StateOf). served s.tables s.order c.args.goal c.args.target.0 ≡ Some c.args.group.0) (sym c.self.view_is) c.requires.next in
    let swap = subst (λ (s : StateOf). c.has_swap-swap_free.result ≡ is_swap_free s.tables) (sym c.self.view_is) c.has_swap-swap_free.ensures in
    let picked = c.pick-page.ensures in
    let picks = picks-of s c.self.invariant c.pick-page.new.self c.args.group.0 c.pick-page.result.0 c.has_swap-swap_free.result swap picked.picked picked.listed picked.rows picked.ages picked.others in
    leaves-swap s c.self.invariant c.are_generations.ensures.generations c.args.goal c.args.target.0 c.args.group.0 serves c.pick-page.new.self c.pick-page.result.0 picks

pub invariant_of-self : goal.invariant_of-self
invariant_of-self c =
    let s = c.self.inside in
    let serves = subst (λ (s : StateOf). served s.tables s.order c.args.goal c.args.target.0 ≡ Some c.args.group.0) (sym c.self.view_is) c.requires.next in
    let swap = subst (λ (s : StateOf). c.has_swap-swap_free.result ≡ is_swap_free s.tables) (sym c.self.view_is) c.has_swap-swap_free.ensures in
    let picked = c.pick-page.ensures in
    let picks = picks-of s c.self.invariant c.pick-page.new.self c.args.group.0 c.pick-page.result.0 c.has_swap-swap_free.result swap picked.picked picked.listed picked.rows picked.ages picked.others in
    joined-left s c.self.invariant c.are_generations.ensures.generations c.args.goal c.args.target.0 c.args.group.0 serves c.pick-page.new.self c.pick-page.result.0 picks c.take_out.new.self c.take_out.ensures.agree c.serve.new.self (moves c) c.take_out.result
    (c.take_out.ensures.leaves picks.label picks.frame picks.stands)

pub returns : goal.returns
returns c =
    let s = c.self.inside in
    let serves = subst (λ (s : StateOf). served s.tables s.order c.args.goal c.args.target.0 ≡ Some c.args.group.0) (sym c.self.view_is) c.requires.next in
    let swap = subst (λ (s : StateOf). c.has_swap-swap_free.result ≡ is_swap_free s.tables) (sym c.self.view_is) c.has_swap-swap_free.ensures in
    let picked = c.pick-page.ensures in
    let picks = picks-of s c.self.invariant c.pick-page.new.self c.args.group.0 c.pick-page.result.0 c.has_swap-swap_free.result swap picked.picked picked.listed picked.rows picked.ages picked.others in
    rw (← c.self.view_is)
    (takes-page s c.self.invariant c.are_generations.ensures.generations c.args.goal c.args.target.0 c.args.group.0 serves c.pick-page.new.self c.pick-page.result.0 picks c.take_out.new.self c.take_out.ensures.agree c.serve.new.self (moves c) c.take_out.result
    (c.take_out.ensures.leaves picks.label picks.frame picks.stands))
