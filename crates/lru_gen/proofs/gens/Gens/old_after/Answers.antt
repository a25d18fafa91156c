use Rattle.std.proofs.Common.{◌≡◌, true, ap, ◌∙◌, arith}
use Rattle.machine.specs.Generations.{row_of, has_page, after_in}
use Rattle.machine.specs.Eviction.{old_of}
use Rattle.rings.proofs.ListLemmas.{listed_from}
use Rattle.lru_gen.specs.Gens.{gens_of}
use Rattle.lru_gen.specs.Rows.{rows_from}
use Rattle.lru_gen.proofs.SoundLemmas.{row_stands}
use Rattle.lru_gen.proofs.SearchLemmas.{next_on_list, next_in_turn}
use Rattle.lru_gen.proofs.SeenLemmas.{group_seen, old_by_least}
use Rattle.lru_gen.proofs.gens.Gens.old_after.Goals as goal
use Rattle.lru_gen.proofs.gens.Gens.old_after.Goals.{After-old_generations-old}

-- the pages of the generations that are old are the old pages
same : (c : After-old_generations-old) → rows_from c.self.inside.rings.lists c.args.group.0 c.args.kind c.min_seq-oldest.result c.old_generations-old.result ≡ old_of (gens_of c.args.self.now c.args.group.0).max_seq (row_of c.args.kind (gens_of c.args.self.now c.args.group.0)).pages
same c =
    let h = group_seen c.self.view_is c.self.invariant c.requires.group in
    old_by_least h c.args.kind c.old_generations-old.result c.min_seq-oldest.ensures c.old_generations-old.ensures.two c.old_generations-old.ensures.few

-- and so the page stands in one of them
listed : (c : After-old_generations-old) → has_page c.args.page.0 (rows_from c.self.inside.rings.lists c.args.group.0 c.args.kind c.min_seq-oldest.result c.old_generations-old.result) ≡ true
listed c = ap (has_page c.args.page.0) (same c) ∙ c.requires.listed

pub behind-requires : goal.behind-requires
behind-requires c =
    let found = row_stands c.self.inside.rings.lists c.args.group.0 c.args.kind c.args.page.0 _ _ (listed c) in
    listed_from c.self.inside.rings.lists _ c.args.page.0 found.there

pub first_from-requires : goal.first_from-requires
first_from-requires c =
    let h = group_seen c.self.view_is c.self.invariant c.requires.group in
    record { group = h.few; lists = h.lists_within; end = omega arith }

pub returns-in-Page : goal.returns-in-Page
returns-in-Page c =
    let before = (goal.at.returns-in-Page c).After-old_generations-old in
    let next = c.in-Page.ensures in
    next_on_list c.self.inside.rings.lists c.lists_are_apart.ensures.apart c.args.group.0 c.args.kind _ _ (omega arith) c.args.page.0 (listed before) next.0 c.in-Page.next.0 next.1 next.2 next.3
    ∙ ap (after_in c.args.page.0) (same before)

pub returns-in-Head : goal.returns-in-Head
returns-in-Head c =
    let before = (goal.at.returns-in-Head c).After-old_generations-old in
    let last = c.in-Head.ensures in
    let turn = c.next_turn-turn.ensures in
    c.first_from.ensures
    ∙ next_in_turn c.self.inside.rings.lists c.lists_are_apart.ensures.apart c.args.group.0 c.args.kind _ _ (omega arith) c.args.page.0 (listed before) c.in-Head.list.0 c.next_turn-turn.result last.0 last.1 turn.later turn.last turn.next
    ∙ ap (after_in c.args.page.0) (same before)
