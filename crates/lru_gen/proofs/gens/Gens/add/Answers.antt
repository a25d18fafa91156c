use Rattle.std.proofs.Common.{ap, set, sym, ◌∙◌, arith, true}
use Rattle.std.proofs.lemmas.List.{set-get_or}
use Rattle.machine.specs.Generations.{added, gens_at}
use Rattle.rings.specs.RingNodes.{page_node}
use Rattle.lru_gen.specs.Rows.{first_numbers, numbers_at, groups_from}
use Rattle.lru_gen.specs.Filled.{filled_at, with_flag}
use Rattle.lru_gen.proofs.GroupLemmas.{Changes}
use Rattle.lru_gen.proofs.ChangeLemmas.{added_changes}
use Rattle.lru_gen.proofs.FilledLemmas.{kept_with, added_told}
use Rattle.lru_gen.proofs.LinkLemmas.{lists_told, few_of_add}
use Rattle.lru_gen.proofs.SeenLemmas.{group_seen, least, most, filled_read, list_among, lists_seen, listed_seen, seen_changed}
use Rattle.lru_gen.proofs.gens.Gens.add.Goals as goal
use Rattle.lru_gen.proofs.gens.Gens.add.Goals.{After-push_back}

pub list_of-requires : goal.list_of-requires
list_of-requires c = (group_seen c.self.view_is c.self.invariant c.requires.group).few

pub push_back-requires-clause-list : goal.push_back-requires-clause-list
push_back-requires-clause-list c = list_among (group_seen c.self.view_is c.self.invariant c.requires.group) _ _ c.list_of.ensures

pub push_back-requires-clause-unlisted : goal.push_back-requires-clause-unlisted
push_back-requires-clause-unlisted c = listed_seen c.self.view_is c.self.invariant _ ∙ c.requires.unlisted

pub index_mut-filled-requires : goal.index_mut-filled-requires
index_mut-filled-requires c =
    let h = group_seen c.self.view_is c.self.invariant c.requires.group in
    let size = c.self.inside.filled.ok.0 in
    omega (arith, h.told, size)

change : (c : After-push_back) → Changes c.self.inside.rings.lists c.push_back.new.self.lists c.self.inside.numbers.items c.args.group.0 (numbers_at c.self.inside.numbers.items c.args.group.0) (added c.args.page.0 c.args.kind c.args.seq)
change c =
    let h = group_seen c.self.view_is c.self.invariant c.requires.group in
    let from = least h c.args.kind in
    let up = most h in
    added_changes c.self.invariant.table h.within c.args.page.0 c.args.kind c.args.seq _ c.list_of.ensures c.push_back.ensures.lists (omega (arith, from, c.requires.low)) (omega (arith, up, c.requires.high))

pub invariant_of-self : goal.invariant_of-self
invariant_of-self c =
    let h = group_seen c.self.view_is c.self.invariant c.requires.group in
    let filled = c.self.inside.filled.items in
    let g = c.args.group.0 in
    let k = c.args.kind in
    kept_with (change (goal.at.invariant_of-self c).After-push_back) (sym (set-get_or _ g first_numbers)) c.self.invariant (with_flag k true (filled_at filled g))
    (ap (set filled g) (c.set.ensures ∙ ap (with_flag k true) (filled_read h c.index_mut-filled.ensures.value)))
    (added_told c.args.page.0 k c.args.seq (filled_at filled g) (gens_at (groups_from c.self.inside.rings.lists 0 c.self.inside.numbers.items) g) (c.self.invariant.flags.told g))

pub returns-clause-groups : goal.returns-clause-groups
returns-clause-groups c =
    seen_changed _ _ (change (goal.at.returns-clause-groups c).After-push_back) (sym (set-get_or _ c.args.group.0 first_numbers)) c.self.view_is c.push_back.ensures.others

pub returns-clause-few : goal.returns-clause-few
returns-clause-few c =
    few_of_add (page_node c.args.page.0) c.list_of.ensures
    (lists_seen c.self.view_is c.self.invariant) (lists_told _ _ (invariant_of-self c).table) c.push_back.ensures.few
