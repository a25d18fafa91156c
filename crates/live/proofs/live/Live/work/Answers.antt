use Rattle.std.proofs.Common.{rules, ◌≡◌, false, arith, List, sym, subst}
use Rattle.live.specs.Passes.{PassOf}
use Rattle.live.specs.Matching.{has_share}
use Rattle.live.specs.Shares.{strange}
use Rattle.machine.specs.declared.command.Command.{Command}
use Rattle.live.specs.Works.{Worked}
use Rattle.live.proofs.RowLemmas.{worked_more, taken}
use Rattle.live.proofs.ShareLemmas.{carries-both, rests}
use Rattle.live.proofs.live.Live.work.Goals as goal

pub loop-at-preserved : goal.loop-at-preserved
loop-at-preserved g c =
    let all = c.args.commands.now in
    let here = c.index-commands-at in
    let more = worked_more _ _ _ _ _ _ _ _ _ c.loop-at.invariant.worked c.one.ensures.did in
    record {
      worked = subst (λ (cs : List Command). Worked g.L.Opened.opening c.args.actor cs c.args.pass.now.exchanges c.one.new.pass.exchanges c.one.new.answers.items) (sym (taken all c.loop-at.at here.result c.loop-at-test.true here.is)) more;
      room = omega (arith, c.one.ensures.left);
      share = carries-both _ _ _ _ _ _ c.loop-at.invariant.share c.one.ensures.share;
      caller = search rules;
    }

pub returns-clause-rest : goal.returns-clause-rest
returns-clause-rest g c =
    let was = subst (λ (p : PassOf). strange p.kept ≡ 0) c.sit.ensures.same c.sit.ensures.known in
    let last = c.sit-2.ensures.same in
    let is = subst (λ (p : PassOf). strange p.kept ≡ 0) last c.sit-2.ensures.known in
    subst (λ (p : PassOf). has_share c.args.pass.now.kept ≡ false → has_share p.kept ≡ false) (sym last) (rests c.args.pass.now.kept c.loop-at.pass.kept was is c.loop-at.invariant.share)
