use Rattle.std.proofs.Common.{◌∙◌, false, length, sym, ap, length-set}
use Rattle.lru_gen.specs.Gens.{GensOf}
use Rattle.held_pages.proofs.PickLemmas.{listed-where}
use Rattle.held_pages.proofs.HeldPages.isolate.Goals as goal

pub invariant_of-self : goal.invariant_of-self
invariant_of-self c =
    let s = c.self.inside in
    let listed = rw (← c.self.view_is) at c.requires.listed in
    let found = listed-where s.gens.groups c.args.page.0 listed in
    let pages = sym (ap (λ (g : GensOf). g.pages) (c.isolate.ensures.groups found.0 found.1)) in
    (ap length c.clear.ensures ∙ length-set s.marks c.args.page.0 false ∙ c.self.invariant.0 ∙ pages, ap length c.clear-2.ensures ∙ length-set s.hits c.args.page.0 0 ∙ c.self.invariant.1 ∙ pages)
