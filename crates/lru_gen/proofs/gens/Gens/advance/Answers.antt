use Rattle.std.proofs.Common.{◌≤◌, ◌+◌, refl, sym, subst, ap, ◌∙◌, arith}
use Rattle.machine.specs.declared.record.Kind.{Kind}
use Rattle.machine.specs.Generations.{Gens, advanced}
use Rattle.lru_gen.specs.declared.numbers.Numbers.{Numbers}
use Rattle.lru_gen.specs.Rows.{numbers_at, oldest}
use Rattle.lru_gen.proofs.KindLemmas.{each_kind}
use Rattle.lru_gen.proofs.GroupLemmas.{Changes}
use Rattle.lru_gen.proofs.ChangeLemmas.{advanced_changes}
use Rattle.lru_gen.proofs.FilledLemmas.{kept_same, advanced_same}
use Rattle.lru_gen.proofs.LinkLemmas.{lists_told}
use Rattle.lru_gen.proofs.SeenLemmas.{group_seen, most, numbers_read, lists_seen, seen_changed}
use Rattle.lru_gen.proofs.gens.Gens.advance.Goals as goal
use Rattle.lru_gen.proofs.gens.Gens.advance.Goals.{After-index_mut}

pub index_mut-requires : goal.index_mut-requires
index_mut-requires c =
    let h = group_seen c.self.view_is c.self.invariant c.requires.group in
    let size = c.self.inside.numbers.ok.0 in
    omega (arith, h.within, size)

pub overflow_add-index_mut : goal.overflow_add-index_mut
overflow_add-index_mut c =
    let h = group_seen c.self.view_is c.self.invariant c.requires.group in
    let up = most h in
    let same = ap (λ (n : Numbers). n.max_seq) (numbers_read h c.index_mut.ensures.value) in
    omega (arith, c.requires.fits)

change : (c : After-index_mut) → Changes c.self.inside.rings.lists c.self.inside.rings.lists c.self.inside.numbers.items c.args.group.0 (record c.index_mut.result.now { max_seq = c.index_mut.result.now.max_seq + 1 }) advanced
change c =
    let h = group_seen c.self.view_is c.self.invariant c.requires.group in
    let n : Numbers = numbers_at c.self.inside.numbers.items c.args.group.0 in
    subst (λ (m : Numbers). Changes c.self.inside.rings.lists c.self.inside.rings.lists c.self.inside.numbers.items c.args.group.0 (record m { max_seq = m.max_seq + 1 }) advanced) (sym (numbers_read h c.index_mut.ensures.value))
    (advanced_changes c.self.invariant.table h.within
    (each_kind (λ (k : Kind). n.max_seq ≤ oldest k n + 2)
    (subst (λ (v : Gens). v.max_seq ≤ v.anon.min_seq + 2) (sym h.gens) c.requires.anon)
    (subst (λ (v : Gens). v.max_seq ≤ v.file.min_seq + 2) (sym h.gens) c.requires.file)))

pub invariant_of-self : goal.invariant_of-self
invariant_of-self c = kept_same (change (goal.at.invariant_of-self c).After-index_mut) refl c.self.invariant advanced_same

pub returns-clause-groups : goal.returns-clause-groups
returns-clause-groups c = seen_changed _ _ (change (goal.at.returns-clause-groups c).After-index_mut) refl c.self.view_is refl

pub returns-clause-links : goal.returns-clause-links
returns-clause-links c = sym (lists_told _ _ (invariant_of-self c).table) ∙ lists_seen c.self.view_is c.self.invariant
