use Rattle.std.proofs.Common.{ℕ, List, [], ◌++◌, set, refl, sym, ap, ◌∙◌, append-nil}
use Rattle.rings.specs.RingNodes.{head_node}
use Rattle.rings.specs.Rings.{list_at}
use Rattle.rings.specs.Chains.{IsGap}
use Rattle.rings.proofs.table.Rings.splice_back.Goals as goal
use Rattle.rings.proofs.table.Rings.splice_back.Goals.{After-prev-last}

abbrev gap : (c : After-prev-last) → IsGap c.args.self.now.lists c.args.target.0 c.prev-last.result (head_node c.args.target.0)
gap c = record { front = list_at c.args.self.now.lists c.args.target.0; rest = []; whole = sym (append-nil _); prev = c.prev-last.ensures.node ∙ c.head.ensures.prev; next = refl }

pub splice-requires-clause-gap : goal.splice-requires-clause-gap
splice-requires-clause-gap c = gap (goal.at.splice-requires-clause-gap c).After-prev-last

pub returns-clause-lists : goal.returns-clause-lists
returns-clause-lists c =
    let lists = c.args.self.now.lists in
    let s = c.args.source.0 in
    let t = c.args.target.0 in
    c.splice.ensures.lists (gap (goal.at.returns-clause-lists c).After-prev-last)
    ∙ ap (λ (ps : List ℕ). set (set lists t (list_at lists t ++ ps)) s []) (append-nil (list_at lists s))

pub returns-clause-few : goal.returns-clause-few
returns-clause-few c n other =
    let last = (gap (goal.at.returns-clause-few c).After-prev-last).prev in
    c.splice.ensures.few n (other.0, ((λ same. other.1.1.1.1.0 (same ∙ last)), (other.1.1.0, (other.1.1.1.0, (other.1.0, tt)))))
