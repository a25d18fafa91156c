use Rattle.std.proofs.Common.{arith}
use Rattle.rings.proofs.ChainLemmas.{lists_are, hold_as_found}
use Rattle.rings.proofs.TableLemmas.{no_rings}
use Rattle.rings.proofs.table.Rings.open.Goals as goal

pub invariant_of-result : goal.invariant_of-result
invariant_of-result c = hold_as_found _ _ (no_rings (record { pages = c.in_ok-no_links.field-0; heads = c.new.result }) c.args.numbers (omega arith) c.in_ok-no_links.ensures c.new.ensures.items)

pub returns-clause-lists : goal.returns-clause-lists
returns-clause-lists c = lists_are _ _ (no_rings (record { pages = c.in_ok-no_links.field-0; heads = c.new.result }) c.args.numbers (omega arith) c.in_ok-no_links.ensures c.new.ensures.items)
