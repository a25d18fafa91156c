use Rattle.std.proofs.Common.{◌≡◌, ◌+◌, ◌-◌, ℕ, ap, refl, ◌∙◌, arith}
use Rattle.machine.specs.Generations.{on_row, merged}
use Rattle.lru_gen.specs.declared.numbers.Numbers.{Numbers}
use Rattle.lru_gen.specs.Lists.{slot}
use Rattle.lru_gen.specs.Rows.{numbers_at, oldest, with_oldest}
use Rattle.lru_gen.proofs.GroupLemmas.{Changes}
use Rattle.lru_gen.proofs.ChangeLemmas.{merged_changes}
use Rattle.lru_gen.proofs.FilledLemmas.{kept_same, merged_same}
use Rattle.lru_gen.proofs.LinkLemmas.{lists_told, few_of_merge}
use Rattle.lru_gen.proofs.SeenLemmas.{group_seen, least, most, numbers_read, list_among, lists_seen, seen_changed}
use Rattle.lru_gen.proofs.gens.Gens.merge_oldest.Goals as goal
use Rattle.lru_gen.proofs.gens.Gens.merge_oldest.Goals.{After-splice_front}

pub index_mut-requires : goal.index_mut-requires
index_mut-requires c =
    let h = group_seen c.self.view_is c.self.invariant c.requires.group in
    let size = c.self.inside.numbers.ok.0 in
    omega (arith, h.within, size)

pub raise_min_seq-next-requires : goal.raise_min_seq-next-requires
raise_min_seq-next-requires c =
    let h = group_seen c.self.view_is c.self.invariant c.requires.group in
    let read = numbers_read h c.index_mut.ensures.value in
    let from = ap (oldest c.args.kind) read in
    let up = ap (λ (n : Numbers). n.max_seq) read in
    omega (arith, from, up, (h.window c.args.kind).two)

pub list_of-requires : goal.list_of-requires
list_of-requires c = (group_seen c.self.view_is c.self.invariant c.requires.group).few

pub list_of-requires-2 : goal.list_of-requires-2
list_of-requires-2 c = (group_seen c.self.view_is c.self.invariant c.requires.group).few

pub splice_front-requires-clause-source : goal.splice_front-requires-clause-source
splice_front-requires-clause-source c = list_among (group_seen c.self.view_is c.self.invariant c.requires.group) _ _ c.list_of.ensures

pub splice_front-requires-clause-target : goal.splice_front-requires-clause-target
splice_front-requires-clause-target c = list_among (group_seen c.self.view_is c.self.invariant c.requires.group) _ _ c.list_of-2.ensures

-- the number of the next generation
next_is : (c : After-splice_front) → c.raise_min_seq-next.result ≡ oldest c.args.kind (numbers_at c.self.inside.numbers.items c.args.group.0) + 1
next_is c =
    let h = group_seen c.self.view_is c.self.invariant c.requires.group in
    c.raise_min_seq-next.ensures.number ∙ ap (λ (n : Numbers). oldest c.args.kind n + 1) (numbers_read h c.index_mut.ensures.value)

change : (c : After-splice_front) → Changes c.self.inside.rings.lists c.splice_front.new.self.lists c.self.inside.numbers.items c.args.group.0 c.raise_min_seq-next.new.self (on_row c.args.kind merged)
change c =
    let h = group_seen c.self.view_is c.self.invariant c.requires.group in
    let g = c.args.group.0 in
    let k = c.args.kind in
    let from = least h k in
    let up = most h in
    let next = next_is c in
    let before : c.raise_min_seq-next.result - 1 ≡ oldest k (numbers_at c.self.inside.numbers.items g) = omega arith in
    merged_changes c.self.invariant.table h.within k _ _ (omega (arith, c.requires.four))
    (c.list_of.ensures ∙ ap (slot g k) before) (c.list_of-2.ensures ∙ ap (slot g k) next) c.splice_front.ensures.lists _
    (c.raise_min_seq-next.ensures.raised ∙ ap (λ (n : Numbers). with_oldest k (oldest k n + 1) n) (numbers_read h c.index_mut.ensures.value))

pub invariant_of-self : goal.invariant_of-self
invariant_of-self c = kept_same (change (goal.at.invariant_of-self c).After-splice_front) refl c.self.invariant (merged_same c.args.kind)

pub returns-clause-groups : goal.returns-clause-groups
returns-clause-groups c = seen_changed _ _ (change (goal.at.returns-clause-groups c).After-splice_front) refl c.self.view_is c.splice_front.ensures.others

pub returns-clause-few : goal.returns-clause-few
returns-clause-few c =
    let h = group_seen c.self.view_is c.self.invariant c.requires.group in
    let g = c.args.group.0 in
    let k = c.args.kind in
    let next = next_is (goal.at.returns-clause-few c).After-splice_front ∙ ap (λ (q : ℕ). q + 1) (least h k) in
    few_of_merge (c.list_of.ensures ∙ ap (slot g k) (omega arith)) (c.list_of-2.ensures ∙ ap (slot g k) next)
    (lists_seen c.self.view_is c.self.invariant) (lists_told _ _ (invariant_of-self c).table) c.splice_front.ensures.few
