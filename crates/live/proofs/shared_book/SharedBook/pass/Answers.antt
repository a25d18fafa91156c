use Rattle.std.proofs.Common.{rules, ◌+◌, ap, ◌∙◌, arith}
use Rattle.live.specs.Logs.{LogOf}
use Rattle.live.proofs.SharedLemmas.{shared-pass}
use Rattle.live.proofs.shared_book.SharedBook.pass.Goals as goal

pub invariant_of-self-2 : goal.invariant_of-self-2
invariant_of-self-2 g c = (
  shared-pass g.L.Opened.table g.L.Opened.opening c.self.inside.book c.self.inside.log c.self.invariant.0 c.pass.new.self c.give_out-front.new.log c.in_ok-pass.ensures.ok
      (c.give_out-front.ensures.log ∙ ap (λ (l : LogOf). record l { given = l.given + 1 }) c.agree.ensures.log),
  search rules,
  search (rules, arith),
)
