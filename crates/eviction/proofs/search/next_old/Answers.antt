use Rattle.std.proofs.Common.{◌≡◌, option_map, slice_get, IfSome, true, sym, ap, ◌∙◌, subst}
use Rattle.machine.specs.Generations.{Listed, Gens, kind_of, is_listed}
use Rattle.machine.specs.Eviction.{old_pages, settled_gens}
use Rattle.lru_gen.specs.Gens.{gens_of}
use Rattle.aging.proofs.GroupLemmas.{sets-by}
use Rattle.eviction.specs.declared.search.Old.{Old}
use Rattle.eviction.proofs.SettleLemmas.{settled-both}
use Rattle.eviction.proofs.search.next_old.Goals as goal

pub first_old-requires-clause-group : goal.first_old-requires-clause-group
first_old-requires-clause-group c = (settled-both c.args.group.0 c.args.gens.now c.settle.new.gens c.settle-2.new.gens c.requires c.settle.ensures c.settle-2.ensures).group

pub first_old-requires-clause-settled : goal.first_old-requires-clause-settled
first_old-requires-clause-settled c =
    let b = settled-both c.args.group.0 c.args.gens.now c.settle.new.gens c.settle-2.new.gens c.requires c.settle.ensures c.settle-2.ensures in
    b.gens ∙ sym (ap (λ (x : Gens). settled_gens x) b.gens)

pub returns-clause-gens : goal.returns-clause-gens
returns-clause-gens c =
    let b = settled-both c.args.group.0 c.args.gens.now c.settle.new.gens c.settle-2.new.gens c.requires c.settle.ensures c.settle-2.ensures in
    sets-by c.args.group.0 c.args.gens.now c.settle-2.new.gens (settled_gens (gens_of c.args.gens.now c.args.group.0)) b.only b.gens

pub returns-clause-page : goal.returns-clause-page
returns-clause-page c =
    let b = settled-both c.args.group.0 c.args.gens.now c.settle.new.gens c.settle-2.new.gens c.requires c.settle.ensures c.settle-2.ensures in
    c.first_old.ensures.page ∙ ap (λ (x : Gens). option_map (λ (l : Listed). l.page) (slice_get (old_pages c.args.swap_free x) 0)) b.gens

pub returns-clause-kind : goal.returns-clause-kind
returns-clause-kind c =
    let b = settled-both c.args.group.0 c.args.gens.now c.settle.new.gens c.settle-2.new.gens c.requires c.settle.ensures c.settle-2.ensures in
    subst (λ (x : Gens). IfSome c.first_old.result (λ (o : Old). o.kind ≡ kind_of x o.page.0)) b.gens c.first_old.ensures.kind

pub returns-clause-listed : goal.returns-clause-listed
returns-clause-listed c =
    let b = settled-both c.args.group.0 c.args.gens.now c.settle.new.gens c.settle-2.new.gens c.requires c.settle.ensures c.settle-2.ensures in
    subst (λ (x : Gens). IfSome c.first_old.result (λ (o : Old). is_listed x o.page.0 ≡ true)) b.gens c.first_old.ensures.listed
