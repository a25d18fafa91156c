use Rattle.std.proofs.Common.{[], refl, ◌∙◌}
use Rattle.rings.specs.RingNodes.{head_node}
use Rattle.rings.specs.Rings.{list_at}
use Rattle.rings.specs.Chains.{IsGap}
use Rattle.rings.proofs.table.Rings.splice_front.Goals as goal
use Rattle.rings.proofs.table.Rings.splice_front.Goals.{After-next-first}

abbrev gap : (c : After-next-first) → IsGap c.args.self.now.lists c.args.target.0 (head_node c.args.target.0) c.next-first.result
gap c = record { front = []; rest = list_at c.args.self.now.lists c.args.target.0; whole = refl; prev = refl; next = c.next-first.ensures.node ∙ c.head.ensures.next }

pub splice-requires-clause-gap : goal.splice-requires-clause-gap
splice-requires-clause-gap c = gap (goal.at.splice-requires-clause-gap c).After-next-first

pub returns-clause-lists : goal.returns-clause-lists
returns-clause-lists c = c.splice.ensures.lists (gap (goal.at.returns-clause-lists c).After-next-first)

pub returns-clause-few : goal.returns-clause-few
returns-clause-few c n other =
    let first = (gap (goal.at.returns-clause-few c).After-next-first).next in
    c.splice.ensures.few n (other.0, (other.1.0, (other.1.1.0, (other.1.1.1.0, ((λ same. other.1.1.1.1.0 (same ∙ first)), tt)))))
