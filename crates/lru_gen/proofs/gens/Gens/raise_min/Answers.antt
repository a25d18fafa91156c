use Rattle.std.proofs.Common.{◌+◌, sym, ap, refl, ◌∙◌, arith}
use Rattle.machine.specs.Generations.{on_row, raised, front_of}
use Rattle.lru_gen.specs.declared.numbers.Numbers.{Numbers}
use Rattle.lru_gen.specs.Rows.{oldest, with_oldest}
use Rattle.lru_gen.proofs.RowLemmas.{oldest_empty}
use Rattle.lru_gen.proofs.GroupLemmas.{Changes}
use Rattle.lru_gen.proofs.ChangeLemmas.{raised_changes}
use Rattle.lru_gen.proofs.FilledLemmas.{kept_same, raised_same}
use Rattle.lru_gen.proofs.LinkLemmas.{lists_told}
use Rattle.lru_gen.proofs.SeenLemmas.{group_seen, row_seen, least, most, numbers_read, lists_seen, seen_changed}
use Rattle.lru_gen.proofs.gens.Gens.raise_min.Goals as goal
use Rattle.lru_gen.proofs.gens.Gens.raise_min.Goals.{After-raise_min_seq}

pub index_mut-requires : goal.index_mut-requires
index_mut-requires c =
    let h = group_seen c.self.view_is c.self.invariant c.requires.group in
    let size = c.self.inside.numbers.ok.0 in
    omega (arith, h.within, size)

pub raise_min_seq-requires : goal.raise_min_seq-requires
raise_min_seq-requires c =
    let h = group_seen c.self.view_is c.self.invariant c.requires.group in
    let read = numbers_read h c.index_mut.ensures.value in
    let from = ap (oldest c.args.kind) read in
    let up = ap (λ (n : Numbers). n.max_seq) read in
    omega (arith, from, up, (h.window c.args.kind).two)

change : (c : After-raise_min_seq) → Changes c.self.inside.rings.lists c.self.inside.rings.lists c.self.inside.numbers.items c.args.group.0 c.raise_min_seq.new.self (on_row c.args.kind raised)
change c =
    let h = group_seen c.self.view_is c.self.invariant c.requires.group in
    let k = c.args.kind in
    let from = least h k in
    let up = most h in
    raised_changes c.self.invariant.table h.within k (omega (arith, c.requires.three))
    (oldest_empty c.args.group.0 k c.self.inside.rings.lists _ 3 (ap front_of (row_seen h k) ∙ c.requires.empty)) _
    (c.raise_min_seq.ensures.raised ∙ ap (λ (n : Numbers). with_oldest k (oldest k n + 1) n) (numbers_read h c.index_mut.ensures.value))

pub invariant_of-self : goal.invariant_of-self
invariant_of-self c = kept_same (change (goal.at.invariant_of-self c).After-raise_min_seq) refl c.self.invariant (raised_same c.args.kind)

pub returns-clause-groups : goal.returns-clause-groups
returns-clause-groups c = seen_changed _ _ (change (goal.at.returns-clause-groups c).After-raise_min_seq) refl c.self.view_is refl

pub returns-clause-links : goal.returns-clause-links
returns-clause-links c = sym (lists_told _ _ (invariant_of-self c).table) ∙ lists_seen c.self.view_is c.self.invariant
