use Rattle.std.proofs.Common.{arith, ◌+◌, ◌++◌, ◌∷◌, ℕ, List, [], replicate, length, ap, sym, subst, ◌∙◌, length-append}
use Rattle.std.proofs.lemmas.Grind.{common_steps}
use Rattle.machine.specs.Generations.{Gens, new_gens}
use Rattle.lru_gen.specs.Gens.{GensOf}
use Rattle.lru_gen.specs.Rows.{first_numbers, groups_from}
use Rattle.lru_gen.specs.declared.numbers.Numbers.{Numbers}
use Rattle.lru_gen.specs.declared.filled.Filled.{Filled}
use Rattle.lru_gen.specs.Filled.{no_page, AreTold}
use Rattle.lru_gen.proofs.FilledLemmas.{told_of_more}
use Rattle.lru_gen.proofs.GroupLemmas.{grown}
use Rattle.lru_gen.proofs.gens.Gens.add_group_reserved.Goals as goal

pub returns-clause-groups : goal.returns-clause-groups
returns-clause-groups c =
    let lists = c.self.inside.rings.lists in
    let numbers = c.self.inside.numbers.items in
    ap (λ (ls : List (List ℕ)). groups_from ls 0 c.push_reserved.new.self.items) c.add.ensures.lists
    ∙ ap (groups_from (lists ++ replicate 8 []) 0) c.push_reserved.ensures.items
    ∙ grown lists numbers 8 c.self.invariant.table.count
    ∙ ap (λ (v : GensOf). v.groups ++ new_gens ∷ []) c.self.view_is

pub invariant_of-self : goal.invariant_of-self
invariant_of-self c =
    let lists = c.self.inside.rings.lists in
    let numbers = c.self.inside.numbers.items in
    let filled = c.self.inside.filled.items in
    record {
      table = grind (arith, common_steps);
      size =
          ap (λ (fs : List Filled). length fs) c.push_reserved-2.ensures.items ∙ length-append filled (no_page ∷ [])
          ∙ ap (λ (n : ℕ). n + 1) c.self.invariant.size
          ∙ sym (ap (λ (ns : List Numbers). length ns) c.push_reserved.ensures.items ∙ length-append numbers (first_numbers ∷ []));
      flags =
          subst (λ (fs : List Filled). AreTold fs (groups_from c.add.new.self.lists 0 c.push_reserved.new.self.items)) (sym c.push_reserved-2.ensures.items)
          (subst (λ (gs : List Gens). AreTold (filled ++ no_page ∷ []) gs)
          (sym (ap (λ (ls : List (List ℕ)). groups_from ls 0 c.push_reserved.new.self.items) c.add.ensures.lists
          ∙ ap (groups_from (lists ++ replicate 8 []) 0) c.push_reserved.ensures.items
          ∙ grown lists numbers 8 c.self.invariant.table.count))
          (told_of_more filled (groups_from lists 0 numbers) c.self.invariant.flags));
    }
