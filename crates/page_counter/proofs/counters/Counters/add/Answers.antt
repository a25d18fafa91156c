use Rattle.page_counter.proofs.counters.Counters.add.Goals as goal

pub returns-clause-counted : goal.returns-clause-counted
returns-clause-counted c = λ charges counted. c.add_reserved.ensures.counted charges (c.in_ok-reserve.ensures.counted charges counted)
