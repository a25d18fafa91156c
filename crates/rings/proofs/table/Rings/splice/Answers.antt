use Rattle.std.proofs.Common.{refl}
use Rattle.rings.specs.RingNodes.{head_node}
use Rattle.rings.specs.Rings.{list_at}
use Rattle.rings.proofs.LinkLemmas.{same_next, same_prev}
use Rattle.rings.proofs.ReadLemmas.{link_kept}
use Rattle.rings.proofs.ListLemmas.{some_from_test}
use Rattle.rings.proofs.ChainLemmas.{first_is, last_is, first_page, last_page, lists_are, hold_as_found, as_seen}
use Rattle.rings.proofs.RingLemmas.{CanSplice, gap_joined, before_counted, after_counted, before_not_source, after_not_source, spliced}
use Rattle.rings.proofs.table.Rings.splice.Goals as goal
use Rattle.rings.proofs.table.Rings.splice.Goals.{After-self}

can : (c : After-self) → CanSplice c.self.inside.links c.args.self.now.lists c.args.source.0 c.args.target.0 c.args.before c.args.after
can c = record {
  rings = as_seen c.self.view_is c.self.invariant;
  source = c.requires.source;
  target = c.requires.target;
  apart = c.requires.apart;
  some = some_from_test (list_at c.args.self.now.lists c.args.source.0) c.requires.some;
  gap = c.requires.gap;
}

pub splice-requires-clause-before_counted : goal.splice-requires-clause-before_counted
splice-requires-clause-before_counted c = before_counted (can (goal.at.splice-requires-clause-before_counted c).After-self)

pub splice-requires-clause-after_counted : goal.splice-requires-clause-after_counted
splice-requires-clause-after_counted c = after_counted (can (goal.at.splice-requires-clause-after_counted c).After-self)

pub splice-requires-clause-before : goal.splice-requires-clause-before
splice-requires-clause-before c = before_not_source (can (goal.at.splice-requires-clause-before c).After-self)

pub splice-requires-clause-after : goal.splice-requires-clause-after
splice-requires-clause-after c = after_not_source (can (goal.at.splice-requires-clause-after c).After-self)

pub splice-requires-clause-joined : goal.splice-requires-clause-joined
splice-requires-clause-joined c = gap_joined (can (goal.at.splice-requires-clause-joined c).After-self)

pub splice-requires-clause-last : goal.splice-requires-clause-last
splice-requires-clause-last c =
    let w = can (goal.at.splice-requires-clause-last c).After-self in
    last_page _ _ _ w.some (w.rings.rings _ w.source)

pub splice-requires-clause-first : goal.splice-requires-clause-first
splice-requires-clause-first c =
    let w = can (goal.at.splice-requires-clause-first c).After-self in
    first_page _ _ _ w.some (w.rings.rings _ w.source)

pub invariant_of-self : goal.invariant_of-self
invariant_of-self c = hold_as_found _ _ (spliced (can (goal.at.invariant_of-self c).After-self) c.splice.ensures)

pub returns-clause-lists : goal.returns-clause-lists
returns-clause-lists c gap =
    let w = can (goal.at.returns-clause-lists c).After-self in
    lists_are _ _ (spliced (record w { gap = gap }) c.splice.ensures)

pub returns-clause-few : goal.returns-clause-few
returns-clause-few c n other =
    let w = can (goal.at.returns-clause-few c).After-self in
    let t = c.self.inside.links in
    let s = c.args.source.0 in
    let ring = w.rings.rings s w.source in
    let last = last_is t (head_node s) (head_node s) _ ring in
    let first = first_is t s (head_node s) _ ring in
    link_kept w.rings (invariant_of-self c) n
    (c.splice.ensures.few n other.0 other.1.0 other.1.1.1.1.0
    (λ k. other.1.1.1.0 (same_prev t n _ (head_node s) (head_node s) refl k last))
    (λ k. other.1.1.0 (same_next t (head_node s) (head_node s) n _ refl k first)))
