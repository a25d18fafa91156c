use Rattle.std.proofs.Common.{sym, ◌∙◌}
use Rattle.expansion.proofs.StillLemmas.{is_there, is_not_there, waits_never}
use Rattle.expansion.proofs.ItemLemmas.{list_begins, no_list, first_list}
use Rattle.expansion.proofs.expansion.Expansion.step.Goals as goal

pub returns-then-waits : goal.returns-then-waits
returns-then-waits c = record { steps = λ said. absurd (waits_never c.args.self.now said (sym c.waits.ensures ∙ c.if-waits.true)) }

pub returns-then-is_some : goal.returns-then-is_some
returns-then-is_some c =
    let h = is_there c.args.self.now.together (sym c.is_some.ensures ∙ c.if-is_some.true) in
    record { steps = λ said. c.step_together.ensures.steps h.0 said h.1 }

pub returns-then-is_some-2 : goal.returns-then-is_some-2
returns-then-is_some-2 c =
    let h = is_there c.args.self.now.current (sym c.is_some-2.ensures ∙ c.if-is_some-2.true) in
    record { steps = λ said. c.step_line.ensures.steps h.0 said (is_not_there c.args.self.now.together (sym c.is_some.ensures ∙ c.if-is_some.false)) h.1 }

pub returns-then-is_empty : goal.returns-then-is_empty
returns-then-is_empty c =
    let x = c.args.self.now in
    record {
      steps = λ said. c.advance.ensures.steps said (record {
        together = is_not_there x.together (sym c.is_some.ensures ∙ c.if-is_some.false);
        current = is_not_there x.current (sym c.is_some-2.ensures ∙ c.if-is_some-2.false);
        queue = no_list x.queue.items x.queue.len x.queue.ok.0 (sym c.is_empty.ensures ∙ c.if-is_empty.true);
      });
    }

pub returns : goal.returns
returns c =
    let x = c.args.self.now in
    let h = first_list x.queue.items x.queue.len x.queue.ok.0 (sym c.is_empty.ensures ∙ c.if-is_empty.false) in
    record {
      steps = λ said. list_begins x c.begin_list.new.self h.0 h.1 said (is_not_there x.together (sym c.is_some.ensures ∙ c.if-is_some.false)) (is_not_there x.current (sym c.is_some-2.ensures ∙ c.if-is_some-2.false)) h.2 (c.begin_list.ensures h.0 h.1 h.2);
    }
