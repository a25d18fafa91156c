use Rattle.std.proofs.Common.{sym, subst, ◌∙◌}
use Rattle.expansion.specs.Merge.{NextOf}
use Rattle.expansion.proofs.MergeLemmas.{replaced}
use Rattle.expansion.proofs.merge.next_with.Goals as goal

pub returns-then-is_before : goal.returns-then-is_before
returns-then-is_before c =
    replaced c.args.members.now c.args.place c.in-Some.first (sym c.has_next.ensures ∙ c.if-not-has_next.false) (sym c.is_before.ensures ∙ c.if-is_before.true) (subst (λ o. NextOf c.args.members.now c.args.place o) c.in-Some.is c.requires.known)
