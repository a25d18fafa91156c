use Rattle.std.proofs.Common.{rules, ◌≡◌, ◌∙◌, ◌+◌, ◌++◌, ◌∷◌, [], List, Some, sym, ap, subst}
use Rattle.machine.specs.declared.record.OomGroup.{OomGroup}
use Rattle.machine.specs.declared.record.OomGroup.TheVariants.{Single}
use Rattle.machine.specs.Names.{parent_path}
use Rattle.machine.specs.Tree.{Node, find_group}
use Rattle.group_tree.specs.Lineages.{bare}
use Rattle.pages.specs.PagesOf.{PagesOf}
use Rattle.spaces.specs.Space.{Space}
use Rattle.page_state.specs.declared.parts.Parts.{Parts}
use Rattle.page_state.specs.States.{StateOf}
use Rattle.page_state.specs.Joined.{IsJoined}
use Rattle.page_state.proofs.JoinLemmas.{joined-group}
use Rattle.page_state.proofs.joined.State.mkdir.Goals as goal

pub invariant_of-self-2 : goal.invariant_of-self-2
invariant_of-self-2 c =
    let s = c.self.inside in
    let path = c.args.path.now in
    let parent = subst (λ (s : StateOf). find_group s.tables.tree (parent_path path) ≡ Some c.args.parent.0) (sym c.self.view_is) c.requires.parent in
    let same = c.in_ok-reserve_group.ensures.same in
    let adds = c.add_group.ensures.adds in
    let spaces = c.add_group-2.ensures ∙ ap (λ (x : Space). record x { groups = x.groups + 1; room = c.add_group-2.new.self.room }) c.in_ok-reserve_group-2.ensures.same in
    subst (λ (x : Space). IsJoined (record s { tree = c.mkdir.new.self; flags = c.add_reserved.new.self; parts = c.add_group.new.self; cursors = c.add_reserved-3.new.self; events = c.add_reserved-2.new.self; spaces = x })) (sym spaces)
    (joined-group s c.self.invariant path c.args.parent.0 parent c.mkdir.new.self c.add_reserved.new.self c.add_group.new.self c.add_reserved-3.new.self c.add_reserved-2.new.self c.add_group-2.new.self.room c.in_ok-group.ensures.ok
    (c.add_reserved.ensures.flags ∙ ap (λ (fs : List OomGroup). fs ++ Single ∷ []) c.in_ok-reserve.ensures.flags) c.add_group.ensures.agree
    (adds.tree ∙ ap (λ (t : List Node). t ++ bare (Some c.args.parent.0) ∷ []) same.tree)
    (c.add_reserved-2.ensures.tree ∙ ap (λ (t : List Node). t ++ bare (Some c.args.parent.0) ∷ []) c.in_ok-reserve-2.ensures.tree)
    (ap (λ (t : PagesOf). t.pages) adds.pages ∙ ap (λ (t : PagesOf). t.pages) same.pages)
    (ap (λ (h : Parts). h.pool.frames) adds.others ∙ ap (λ (h : Parts). h.pool.frames) same.others)
    (ap (λ (h : Parts). h.slots.blocks) adds.others ∙ ap (λ (h : Parts). h.slots.blocks) same.others)
    (ap (λ (t : PagesOf). t.numbers) adds.pages ∙ ap (λ (t : PagesOf). t.numbers) same.pages)
    (ap (λ (t : PagesOf). t.files) adds.pages ∙ ap (λ (t : PagesOf). t.files) same.pages)
    (search rules))
