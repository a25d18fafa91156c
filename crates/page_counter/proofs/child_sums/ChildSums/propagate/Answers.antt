use Rattle.std.proofs.Common.{inl, inr, sym, ◌∙◌, arith}
use Rattle.std.proofs.lemmas.Bool.{cases_lt}
use Rattle.std.proofs.lemmas.List.{get_or_default}
use Rattle.page_counter.proofs.KeptLemmas.{child_of, parent_within, Propagates-none, Propagates-set}
use Rattle.page_counter.proofs.child_sums.ChildSums.propagate.Goals as goal

pub index_mut-sum-requires : goal.index_mut-sum-requires
index_mut-sum-requires c =
    let within = parent_within c.args.lineage.now.tree c.args.group.0 c.requires.live c.in-Some.ensures.lineage c.in-Some.parent.0 (sym c.in-Some.ensures.parent) c.self.inside.sums.items (rw (← c.self.view_is) at c.requires.sums) in
    omega (arith, within)

pub overflow_sub-sum : goal.overflow_sub-sum
overflow_sub-sum c =
    let parent = sym c.in-Some.ensures.parent in
    let within = parent_within c.args.lineage.now.tree c.args.group.0 c.requires.live c.in-Some.ensures.lineage c.in-Some.parent.0 parent c.self.inside.sums.items (rw (← c.self.view_is) at c.requires.sums) in
    let covered = rw (← c.self.view_is) at c.requires.covered in
    let here = covered c.in-Some.parent.0 (child_of c.args.lineage.now.tree c.args.group.0 c.requires.live c.in-Some.parent.0 parent) in
    let read = c.index_mut-sum.ensures.value ∙ get_or_default c.self.inside.sums.items c.in-Some.parent.0 _ 0 within in
    omega (arith, here, read)

pub overflow_add-sum : goal.overflow_add-sum
overflow_add-sum c =
    let parent = sym c.in-Some.ensures.parent in
    let within = parent_within c.args.lineage.now.tree c.args.group.0 c.requires.live c.in-Some.ensures.lineage c.in-Some.parent.0 parent c.self.inside.sums.items (rw (← c.self.view_is) at c.requires.sums) in
    let child = child_of c.args.lineage.now.tree c.args.group.0 c.requires.live c.in-Some.parent.0 parent in
    let covered = rw (← c.self.view_is) at c.requires.covered in
    let fits = rw (← c.self.view_is) at c.requires.fits in
    let here = covered c.in-Some.parent.0 child in
    let read = c.index_mut-sum.ensures.value ∙ get_or_default c.self.inside.sums.items c.in-Some.parent.0 _ 0 within in
    elim (cases_lt c.args.before c.args.after) [
      | inl more ↦ (let most = fits c.in-Some.parent.0 child more in omega (arith, here, read, most))
      | inr less ↦ omega (arith, here, read)
    ]

pub returns-in_default-clause-propagates : goal.returns-in_default-clause-propagates
returns-in_default-clause-propagates c = Propagates-none c.args.lineage.now.tree c.args.group.0 c.requires.live c.args.before c.args.after c.args.self.now.sums (sym c.in_default.ensures.parent)

pub returns-clause-propagates : goal.returns-clause-propagates
returns-clause-propagates c =
    let parent = sym c.in-Some.ensures.parent in
    let within = parent_within c.args.lineage.now.tree c.args.group.0 c.requires.live c.in-Some.ensures.lineage c.in-Some.parent.0 parent c.self.inside.sums.items (rw (← c.self.view_is) at c.requires.sums) in
    let covered = rw (← c.self.view_is) at c.requires.covered in
    let here = covered c.in-Some.parent.0 (child_of c.args.lineage.now.tree c.args.group.0 c.requires.live c.in-Some.parent.0 parent) in
    let read = c.index_mut-sum.ensures.value ∙ get_or_default c.self.inside.sums.items c.in-Some.parent.0 _ 0 within in
    rw (← c.self.view_is) (Propagates-set c.args.lineage.now.tree c.args.group.0 c.requires.live c.args.before c.args.after c.self.inside.sums.items c.in-Some.parent.0 _ parent within read (omega (arith, here, read)))
