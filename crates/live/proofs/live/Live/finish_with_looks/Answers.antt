use Rattle.std.proofs.Common.{rules, ◌≡◌, ◌∙◌, false, List, All, inl, inr, refl, subst}
use Rattle.live.specs.Passes.{PassOf}
use Rattle.live.specs.Matching.{has_share}
use Rattle.live.proofs.RestLemmas.{IsWhole, sum-kept, at_rest}
use Rattle.live.specs.Reports.{HasOut}
use Rattle.live.proofs.live.Live.finish_with_looks.Goals as goal
use Rattle.live.proofs.live.Live.finish_with_looks.Goals.{then-len-given-via-then-len-given, then-len-given-via-else-len-given+then-has_out}

pub returns-clause-all : goal.returns-clause-all
returns-clause-all g c = subst (λ (ps : List PassOf). All (λ (p : PassOf). has_share p.kept ≡ false) ps) c.as_slice.ensures.value c.if-has_out.ensures.out

pub returns-clause-whole : goal.returns-clause-whole
returns-clause-whole g c = subst (λ (ps : List PassOf). All IsWhole ps) c.as_slice.ensures.value (c.if-has_out.ensures.whole refl)

pub returns-clause-entries : goal.returns-clause-entries
returns-clause-entries g c =
    let whole = subst (λ (ps : List PassOf). All IsWhole ps) c.as_slice.ensures.value (c.if-has_out.ensures.whole refl) in
    c.settle-trace.ensures.entries ∙ sum-kept c.args.passes.items whole

pub returns-clause-at_rest : goal.returns-clause-at_rest
returns-clause-at_rest g c =
    let all = subst (λ (ps : List PassOf). All (λ (p : PassOf). has_share p.kept ≡ false) ps) c.as_slice.ensures.value c.if-has_out.ensures.out in
    let whole = subst (λ (ps : List PassOf). All IsWhole ps) c.as_slice.ensures.value (c.if-has_out.ensures.whole refl) in
    let entries = c.settle-trace.ensures.entries ∙ sum-kept c.args.passes.items whole in
    λ _. at_rest c.settle-trace.result.0.entries c.args.passes.items whole c.settle-trace.ensures.matches entries all c.settle-trace.ensures.transfers

pub returns-then-len-given-clause-missing : goal.returns-then-len-given-clause-missing
returns-then-len-given-clause-missing g c =
    elim c.then-len-given.branch [
      | then-len-given-via-then-len-given w ↦ inl (search rules)
      | then-len-given-via-else-len-given+then-has_out w ↦ inr (subst HasOut w.as_slice.ensures.value w.if-has_out.ensures.out)
    ]
