use Rattle.std.proofs.Common.{set, ap, ◌∙◌, arith}
use Rattle.std.proofs.lemmas.List.{get_or_read}
use Rattle.rings.specs.RingNodes.{page_node}
use Rattle.lru_gen.specs.Rows.{first_numbers, oldest}
use Rattle.lru_gen.specs.Filled.{no_page, with_flag}
use Rattle.lru_gen.proofs.ChangeLemmas.{isolated_stays}
use Rattle.lru_gen.proofs.LinkLemmas.{lists_told, few_of_isolate}
use Rattle.lru_gen.proofs.FilledLemmas.{kept_beside, within_alone, kept_alone}
use Rattle.lru_gen.proofs.SeenLemmas.{lists_seen, listed_seen, seen_isolated}
use Rattle.lru_gen.proofs.gens.Gens.isolate.Goals as goal

pub alone_on-emptied-requires : goal.alone_on-emptied-requires
alone_on-emptied-requires c = listed_seen c.self.view_is c.self.invariant _ ∙ c.requires

pub remove-requires : goal.remove-requires
remove-requires c = listed_seen c.self.view_is c.self.invariant _ ∙ c.requires

pub invariant_of-self-in_default : goal.invariant_of-self-in_default
invariant_of-self-in_default c = kept_beside c.self.invariant c.lists_are_apart.ensures.apart _ c.remove.ensures.lists c.in_default.ensures

pub invariant_of-self : goal.invariant_of-self
invariant_of-self c =
    let filled = c.self.inside.filled.items in
    let g = c.type_of-kind.result.0.0 in
    let k = c.type_of-kind.result.1 in
    let still = c.has_any-still.result in
    let apart = c.lists_are_apart.ensures.apart in
    let within = within_alone c.self.invariant apart _ c.remove.ensures.lists _ g k c.in-Some.ensures c.type_of-kind.ensures in
    let read = get_or_read c.self.inside.numbers.items g _ within c.index.ensures first_numbers in
    let found = get_or_read filled g _ (omega (arith, within, c.self.invariant.size)) c.index_mut-filled.ensures.value no_page in
    kept_alone c.self.invariant apart _ c.remove.ensures.lists _ g k c.in-Some.ensures c.type_of-kind.ensures still _ (c.min_seq-oldest.ensures ∙ ap (oldest k) read) c.has_any-still.ensures
    (ap (set filled g) (c.set.ensures ∙ ap (with_flag k still) found))

pub returns-in-Some-clause-groups : goal.returns-in-Some-clause-groups
returns-in-Some-clause-groups c g listed =
    seen_isolated _ _ _ c.self.invariant.table c.lists_are_apart.ensures.apart c.remove.ensures.lists c.self.view_is c.remove.ensures.others g listed

pub returns-in-Some-clause-few : goal.returns-in-Some-clause-few
returns-in-Some-clause-few c link is =
    few_of_isolate (page_node c.args.page.0) (lists_seen c.self.view_is c.self.invariant)
    (lists_told _ _ (isolated_stays c.args.page.0 c.self.invariant.table c.remove.ensures.lists)) c.remove.ensures.few link is

pub returns-in_default-clause-groups : goal.returns-in_default-clause-groups
returns-in_default-clause-groups c g listed =
    seen_isolated _ _ _ c.self.invariant.table c.lists_are_apart.ensures.apart c.remove.ensures.lists c.self.view_is c.remove.ensures.others g listed

pub returns-in_default-clause-few : goal.returns-in_default-clause-few
returns-in_default-clause-few c link is =
    few_of_isolate (page_node c.args.page.0) (lists_seen c.self.view_is c.self.invariant)
    (lists_told _ _ (isolated_stays c.args.page.0 c.self.invariant.table c.remove.ensures.lists)) c.remove.ensures.few link is
