use Rattle.std.proofs.Common.{◌≡◌, Some, ◌+◌, ◌∷◌, [], length, refl, sym, ap, subst, arith}
use Rattle.std.proofs.lemmas.List.{length-append}
use Rattle.machine.specs.Generations.{new_gens}
use Rattle.machine.specs.Lists.{with_group}
use Rattle.pages.specs.PagesOf.{PagesOf}
use Rattle.page_lists.proofs.HeldLemmas.{held-group}
use Rattle.group_tree.specs.Lineages.{bare}
use Rattle.held_pages.specs.Held.{HeldOf}
use Rattle.page_state.specs.Owned.{PartsAgree}
use Rattle.page_state.proofs.CountLemmas.{counted-longer}
use Rattle.page_state.proofs.PartsLemmas.{agree-counted}
use Rattle.page_state.proofs.parts.Parts.add_group.Goals as goal

pub returns-clause-agree : goal.returns-clause-agree
returns-clause-agree c =
    let h = c.args.self.now in
    let is = c.requires.agree in
    let tree = ap length c.add_reserved.ensures.tree in
    let more = length-append h.counters.tree (bare (Some c.args.parent.0) ∷ []) in
    subst (λ (pages : PagesOf). PartsAgree (record h { counters = c.add_reserved.new.self; held = c.add_group.new.self; pages = pages })) (sym c.add_group-2.ensures)
    (subst (λ (held : HeldOf). PartsAgree (record h { counters = c.add_reserved.new.self; held = held; pages = record (h.pages) { groups = h.pages.groups + 1; room = c.add_group-2.new.self.room } })) (sym c.add_group.ensures)
    (agree-counted h c.add_reserved.new.self (record (h.held) { lists = with_group h.held.lists; room = c.add_group.new.self.room }) (h.pages.groups + 1) c.add_group-2.new.self.room
    (counted-longer h.counters c.add_reserved.new.self _ h.pages.pages c.add_reserved.ensures.tree c.add_reserved.ensures.counted is.kept.counted)
    (held-group h.pages.pages h.held.lists is.held)
    (let sized = is.held_groups in let lists = length-append h.held.lists.groups (new_gens ∷ []) in omega (arith, sized, tree, more, lists))
    (let many = is.page_groups in omega (arith, many, tree, more))
    refl is))

pub returns-clause-adds : goal.returns-clause-adds
returns-clause-adds c =
    record {
      tree = c.add_reserved.ensures.tree;
      limits = c.add_reserved.ensures.limits;
      held = ap (λ (held : HeldOf). held.lists) c.add_group.ensures;
      pages = subst (λ (pages : PagesOf). pages ≡ record (c.args.self.now.pages) { groups = pages.groups; room = pages.room }) (sym c.add_group-2.ensures) refl;
      others = refl;
    }
