use Rattle.std.proofs.Common.{◌∙◌, ℕ, List, Option, Some, ap, sym, subst}
use Rattle.pages.specs.PagesOf.{byte_in}
use Rattle.page_state.specs.Changes.{WritesByte}
use Rattle.book_events.specs.declared.event.Reply.TheVariants as given
use Rattle.book.specs.declared.decision.Meeting.TheVariants as meeting
use Rattle.book.specs.Decisions.{Carries}
use Rattle.book.specs.declared.decision.Decision.TheVariants as decision
use Rattle.book.proofs.StepLemmas.{makes_step-hit_read}
use Rattle.book.proofs.TouchLemmas.{makes_step-hit_write}
use Rattle.book.proofs.CarryLemmas.{carries-access}
use Rattle.book.proofs.apply.hit.Goals as goal

pub returns-in-Read : goal.returns-in-Read
returns-in-Read c =
    let s = c.args.state.now in
    let f = c.args.fault in
    let byte = c.read.ensures ∙ ap (λ (bs : List (Option (List ℕ))). byte_in bs c.args.page.0 c.offset-offset.result) c.pages.ensures.bytes ∙ ap (byte_in s.bytes c.args.page.0) c.offset-offset.ensures in
    subst (λ (b : ℕ). Carries s (decision.Access f (meeting.Hits c.args.page c.args.frame)) (given.Done b (Some c.args.frame)) s) (sym byte)
    (carries-access s s f _ _ (makes_step-hit_read s f c.args.page.0 c.args.frame.0 c.requires.fault c.requires.meets.0 c.requires.meets.1 c.in-Read.is c.is_joined.ensures.listed) tt tt)

pub returns-in-Write : goal.returns-in-Write
returns-in-Write c =
    let s = c.args.state.now in
    let f = c.args.fault in
    carries-access s c.write.new.self f _ _
    (makes_step-hit_write s c.write.new.self f c.args.page.0 c.args.frame.0 c.in-Write.byte c.requires.fault c.requires.meets.0 c.requires.meets.1 c.in-Write.is c.is_joined.ensures.mapped
    (subst (λ (o : ℕ). WritesByte s c.write.new.self c.args.page.0 o c.in-Write.byte) c.offset-offset.ensures c.write.ensures) c.is_joined.ensures.listed)
    tt tt
