use Rattle.std.proofs.Common.{ℕ, arith, ap, ◌∙◌}
use Rattle.machine.specs.Generations.{Gens, is_listed_in, added, isolated}
use Rattle.lru_gen.specs.Gens.{GensOf, gens_of, sets}
use Rattle.aging.proofs.GroupLemmas.{change, change-then, listed-in, unlisted-in}
use Rattle.aging.proofs.promotion.to_youngest.Goals as goal

pub add-requires-clause-number : goal.add-requires-clause-number
add-requires-clause-number c =
    let g = c.args.group.0 in
    let p = c.args.page.0 in
    let left = change g c.args.gens.now c.isolate.new.self (isolated p (gens_of c.args.gens.now g)) c.requires.group (c.isolate.ensures.groups g c.requires.listed) in
    let n = c.is_sound.ensures.numbered p (listed-in c.args.gens.now.groups g p c.requires.listed) in
    omega (arith, left.pages, n)

pub add-requires-clause-unlisted : goal.add-requires-clause-unlisted
add-requires-clause-unlisted c =
    let g = c.args.group.0 in
    let p = c.args.page.0 in
    ap (λ (s : GensOf). is_listed_in s.groups p) (c.isolate.ensures.groups g c.requires.listed) ∙ unlisted-in c.args.gens.now.groups g p c.is_sound.ensures.gens c.requires.group c.requires.listed

pub clear-requires : goal.clear-requires
clear-requires c =
    let p = c.args.page.0 in
    let n = c.is_sound.ensures.numbered p (listed-in c.args.gens.now.groups c.args.group.0 p c.requires.listed) in
    omega (arith, n, c.requires.marked)

pub returns-clause-gens : goal.returns-clause-gens
returns-clause-gens c =
    let g = c.args.group.0 in
    let p = c.args.page.0 in
    let start : Gens = gens_of c.args.gens.now g in
    let e = c.isolate.ensures.groups g c.requires.listed in
    let left = change g c.args.gens.now c.isolate.new.self (isolated p start) c.requires.group e in
    change-then g c.args.gens.now c.isolate.new.self c.add.new.self (isolated p start) (added p c.args.kind start.max_seq (isolated p start)) c.requires.group e
    (c.add.ensures.groups
    ∙ ap (λ (n : ℕ). sets c.isolate.new.self g (added p c.args.kind n (gens_of c.isolate.new.self g))) (c.max_seq-youngest.ensures ∙ ap (λ (x : Gens). x.max_seq) left.gens)
    ∙ ap (λ (x : Gens). sets c.isolate.new.self g (added p c.args.kind start.max_seq x)) left.gens)
