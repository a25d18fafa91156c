use Rattle.std.proofs.Common.{rules, ◌≡◌, ◌==◌, not, ap, ◌∙◌}
use Rattle.std.specs.List.{filter}
use Rattle.std.proofs.lemmas.Fn.{filter_same}
use Rattle.machine.specs.declared.id.PageId.{PageId}
use Rattle.page_state.specs.Queue.{numbers_of}
use Rattle.counts.proofs.NumberLemmas.{count-others, length-others}
use Rattle.page_state.proofs.QueueLemmas.{numbers_of-others}
use Rattle.page_state.proofs.queue.Queue.remove.Goals as goal

pub returns-clause-others : goal.returns-clause-others
returns-clause-others c =
    let kept : c.retain.new.self.items ≡ filter (λ (x : PageId). not (x.0 == c.args.page.0)) c.self.inside.order.items = filter_same _ _ _ (λ x b f' k. search rules) _ _ c.retain.ensures.filtered in
    rw (← c.self.view_is) (ap numbers_of kept ∙ numbers_of-others c.self.inside.order.items c.args.page.0)

pub returns-clause-counts : goal.returns-clause-counts
returns-clause-counts c =
    let kept : c.retain.new.self.items ≡ filter (λ (x : PageId). not (x.0 == c.args.page.0)) c.self.inside.order.items = filter_same _ _ _ (λ x b f' k. search rules) _ _ c.retain.ensures.filtered in
    rw (← c.self.view_is, ap numbers_of kept ∙ numbers_of-others c.self.inside.order.items c.args.page.0) (count-others (numbers_of c.self.inside.order.items) c.args.page.0)

pub returns-clause-fewer : goal.returns-clause-fewer
returns-clause-fewer c =
    let kept : c.retain.new.self.items ≡ filter (λ (x : PageId). not (x.0 == c.args.page.0)) c.self.inside.order.items = filter_same _ _ _ (λ x b f' k. search rules) _ _ c.retain.ensures.filtered in
    rw (← c.self.view_is, ap numbers_of kept ∙ numbers_of-others c.self.inside.order.items c.args.page.0) (length-others (numbers_of c.self.inside.order.items) c.args.page.0)
