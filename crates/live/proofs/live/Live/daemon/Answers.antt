use Rattle.std.proofs.Common.{rules, ◌≡◌, false, sym, subst}
use Rattle.live.specs.Passes.{PassOf}
use Rattle.live.specs.Matching.{has_share}
use Rattle.live.specs.Shares.{strange}
use Rattle.live.proofs.RowLemmas.{repeated_more}
use Rattle.live.proofs.ShareLemmas.{carries-both, rests}
use Rattle.live.proofs.live.Live.daemon.Goals as goal

pub returns-then-is_last-clause-works : goal.returns-then-is_last-clause-works
returns-then-is_last-clause-works g c = rw c.sit-then-is_last.ensures.same (repeated_more _ _ _ _ _ _ c.loop-run.invariant.repeated c.balance.ensures.done)

pub loop-run-preserved : goal.loop-run-preserved
loop-run-preserved g c = record {
  can = tt;
  finite = tt;
  repeated = repeated_more _ _ _ _ _ _ c.loop-run.invariant.repeated c.balance.ensures.done;
  caller = search rules;
  share = carries-both _ _ _ _ _ _ c.loop-run.invariant.share c.balance.ensures.share;
}

pub returns-then-is_last-clause-rest : goal.returns-then-is_last-clause-rest
returns-then-is_last-clause-rest g c =
    let was = subst (λ (p : PassOf). strange p.kept ≡ 0) c.sit.ensures.same c.sit.ensures.known in
    let last = c.sit-then-is_last.ensures.same in
    let is = subst (λ (p : PassOf). strange p.kept ≡ 0) last c.sit-then-is_last.ensures.known in
    subst (λ (p : PassOf). has_share c.args.pass.now.kept ≡ false → has_share p.kept ≡ false) (sym last)
    (rests c.args.pass.now.kept c.balance.new.pass.kept was is (carries-both _ _ _ _ _ _ c.loop-run.invariant.share c.balance.ensures.share))
