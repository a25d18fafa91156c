use Rattle.std.proofs.Common.{refl}
use Rattle.expansion.proofs.TogetherLemmas.{none_empty_added, in_added, before_added}
use Rattle.expansion.proofs.together.Member.add.Goals as goal

pub invariant_of-self-2 : goal.invariant_of-self-2
invariant_of-self-2 c =
    let i = c.self.inside in
    rw c.in_ok-push.ensures.items (in_added i.list.items c.args.placed i.at i.taken c.requires c.self.invariant.0, none_empty_added i.list.items c.args.placed c.requires c.self.invariant.1)

pub returns-clause-added : goal.returns-clause-added
returns-clause-added c =
    let i = c.self.inside in
    rw (c.in_ok-push.ensures.items, ← c.self.view_is, before_added i.list.items c.args.placed i.at i.taken c.self.invariant.0) refl
