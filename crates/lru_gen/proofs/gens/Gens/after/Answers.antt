use Rattle.std.proofs.Common.{◌≡◌, true, ap, ◌∙◌, arith}
use Rattle.machine.specs.Generations.{Row, has_page, after_in}
use Rattle.lru_gen.specs.Rows.{rows_from}
use Rattle.rings.proofs.ListLemmas.{listed_from}
use Rattle.lru_gen.proofs.SoundLemmas.{row_stands}
use Rattle.lru_gen.proofs.SearchLemmas.{next_on_list, next_in_turn}
use Rattle.lru_gen.proofs.SeenLemmas.{group_seen, row_by_least}
use Rattle.lru_gen.proofs.gens.Gens.after.Goals as goal
use Rattle.lru_gen.proofs.gens.Gens.after.Goals.{After-min_seq-oldest}

listed : (c : After-min_seq-oldest) → has_page c.args.page.0 (rows_from c.self.inside.rings.lists c.args.group.0 c.args.kind c.min_seq-oldest.result 4) ≡ true
listed c =
    let h = group_seen c.self.view_is c.self.invariant c.requires.group in
    ap (λ (r : Row). has_page c.args.page.0 r.pages) (row_by_least h c.args.kind c.min_seq-oldest.ensures) ∙ c.requires.listed

pub behind-requires : goal.behind-requires
behind-requires c =
    let lists = c.self.inside.rings.lists in
    let p = c.args.page.0 in
    let found = row_stands lists c.args.group.0 c.args.kind p _ 4 (listed (goal.at.behind-requires c).After-min_seq-oldest) in
    listed_from lists _ p found.there

pub first_from-requires : goal.first_from-requires
first_from-requires c =
    let h = group_seen c.self.view_is c.self.invariant c.requires.group in
    record { group = h.few; lists = h.lists_within; end = omega arith }

pub returns-in-Page : goal.returns-in-Page
returns-in-Page c =
    let h = group_seen c.self.view_is c.self.invariant c.requires.group in
    let p = c.args.page.0 in
    let next = c.in-Page.ensures in
    next_on_list c.self.inside.rings.lists c.lists_are_apart.ensures.apart c.args.group.0 c.args.kind _ 4 (omega arith) p (listed (goal.at.returns-in-Page c).After-min_seq-oldest) next.0 c.in-Page.next.0 next.1 next.2 next.3
    ∙ ap (λ (r : Row). after_in p r.pages) (row_by_least h c.args.kind c.min_seq-oldest.ensures)

pub returns-in-Head : goal.returns-in-Head
returns-in-Head c =
    let h = group_seen c.self.view_is c.self.invariant c.requires.group in
    let p = c.args.page.0 in
    let last = c.in-Head.ensures in
    let turn = c.next_turn-turn.ensures in
    c.first_from.ensures
    ∙ next_in_turn c.self.inside.rings.lists c.lists_are_apart.ensures.apart c.args.group.0 c.args.kind _ 4 (omega arith) p (listed (goal.at.returns-in-Head c).After-min_seq-oldest) c.in-Head.list.0 c.next_turn-turn.result last.0 last.1 turn.later turn.last turn.next
    ∙ ap (λ (r : Row). after_in p r.pages) (row_by_least h c.args.kind c.min_seq-oldest.ensures)
