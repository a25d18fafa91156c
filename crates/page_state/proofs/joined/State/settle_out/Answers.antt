use Rattle.std.proofs.Common.{◌∙◌, ap}
use Rattle.machine.specs.declared.record.Direction.TheVariants.{Out}
use Rattle.pages.specs.PagesOf.{byte_in}
use Rattle.page_state.proofs.EndingLemmas.{joined-settled, any-ended, any-bytes}
use Rattle.page_state.proofs.joined.State.settle_out.Goals as goal

pub invariant_of-self : goal.invariant_of-self
invariant_of-self c =
    let s = c.self.inside in
    let flight = c.page_in_flight-page in
    let stood = rw c.number.ensures at flight.ensures.stands in
    let alone = rw c.number.ensures at flight.ensures.alone in
    joined-settled s c.self.invariant c.are_generations.ensures.generations c.settle_out.new.self c.drop_unmapped.new.parts flight.result.0 c.args.ticket.number Out c.args.end alone c.settle_out.ensures.settles c.drop_unmapped.ensures.agree c.drop_unmapped.ensures.drops stood.0 stood.1 stood.2 stood.3

pub returns-clause-ends : goal.returns-clause-ends
returns-clause-ends c =
    let alone = rw c.number.ensures at c.page_in_flight-page.ensures.alone in
    rw (← c.self.view_is) (any-ended c.self.inside c.self.invariant c.are_generations.ensures.generations c.settle_out.new.self c.drop_unmapped.new.parts c.page_in_flight-page.result.0 c.args.ticket.number Out c.args.end alone c.settle_out.ensures.settles c.drop_unmapped.ensures.agree c.drop_unmapped.ensures.drops)

pub returns-clause-stays : goal.returns-clause-stays
returns-clause-stays c =
    let s = c.self.inside in
    let alone = rw c.number.ensures at c.page_in_flight-page.ensures.alone in
    rw (← c.self.view_is) (λ p label f b stood in_frame there k.
    any-bytes s c.self.invariant c.are_generations.ensures.generations c.settle_out.new.self c.drop_unmapped.new.parts c.page_in_flight-page.result.0 c.args.ticket.number Out c.args.end alone c.settle_out.ensures.settles c.drop_unmapped.ensures.agree c.drop_unmapped.ensures.drops p label f b stood there k
    ∙ c.settle_out.ensures.stays in_frame k ∙ ap (λ q. byte_in s.parts.pages.bytes q k) (alone p label f b stood))
