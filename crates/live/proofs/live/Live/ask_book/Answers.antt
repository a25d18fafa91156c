use Rattle.std.proofs.Common.{Bool, sym, ap, subst, ◌∙◌}
use Rattle.turns.specs.Tickets.{is_ending}
use Rattle.live.specs.Passes.{PassOf}
use Rattle.live.specs.Shares.{one_if, Carries}
use Rattle.live.proofs.ShareLemmas.{carries-call, ends-none}
use Rattle.live.proofs.ResultLemmas.{if_ok, on_err}
use Rattle.live.proofs.live.Live.ask_book.Goals as goal

pub returns-clause-share : goal.returns-clause-share
returns-clause-share g c =
    let old = c.args.pass.now.kept in
    let new = c.call-reply.new.pass.kept in
    let held = one_if (is_ending c.args.event) in
    let said = c.call-reply.result in
    let all = carries-call old new c.args.event said (ap (λ (p : PassOf). p.kept) c.call-reply.ensures.answered) c.call-reply.ensures.replies in
    if_ok c.told.result (λ t e. subst (λ (b : Bool). Carries old held new (one_if b)) (sym e) all) c.told.ensures.holds

pub returns-clause-ends : goal.returns-clause-ends
returns-clause-ends g c =
    if_ok c.told.result (λ t e is. e ∙ ends-none c.args.event c.call-reply.result c.call-reply.ensures.replies is) c.told.ensures.holds

pub returns-clause-share_at_err : goal.returns-clause-share_at_err
returns-clause-share_at_err g c =
    let old = c.args.pass.now.kept in
    let new = c.call-reply.new.pass.kept in
    let held = one_if (is_ending c.args.event) in
    let said = c.call-reply.result in
    let all = carries-call old new c.args.event said (ap (λ (p : PassOf). p.kept) c.call-reply.ensures.answered) c.call-reply.ensures.replies in
    on_err c.told.result (λ e. subst (λ (b : Bool). Carries old held new (one_if b)) e all) c.told.ensures.quiet
