use Rattle.std.proofs.Common.{◌≡◌, ◌⊎◌, inl, inr, ℕ, ◌<◌, true, false, List, All, length, sym, subst, ◌∙◌, arith}
use Rattle.std.proofs.lemmas.List.Elements.{All-get_or}
use Rattle.live.specs.Passes.{PassOf}
use Rattle.live.specs.declared.report.Unfinished.{Unfinished}
use Rattle.live.specs.declared.report.Unfinished.TheVariants.{PassMissing}
use Rattle.live.specs.Matching.{has_share}
use Rattle.live.specs.Reports.{HasOut, IsMissing}
use Rattle.callers.proofs.opened.end.Goals as goal

none_missing : (given : ℕ) (passes : List PassOf) (cause : Unfinished) → length passes ≡ given → All (λ (p : PassOf). has_share p.kept ≡ false) passes → IsMissing passes cause → cause ≡ PassMissing given → ⊥
none_missing given passes cause all rest missing is = by (subst (IsMissing passes) is missing)
  where
    by : (length passes < given) ⊎ HasOut passes → ⊥
    by (inl few) = omega (arith, few, all)
    by (inr out) =
        let none = All-get_or (λ (p : PassOf). has_share p.kept ≡ false) passes out.place out.other out.within rest in
        let wrong : true ≡ false = sym out.has ∙ none in cc

pub unreachable-requires : goal.unreachable-requires
unreachable-requires g c = none_missing _ c.args.passes.items c.in-Err._cause c.requires.all c.requires.rest c.in-Err.ensures.missing c.in-Err.ensures.given
