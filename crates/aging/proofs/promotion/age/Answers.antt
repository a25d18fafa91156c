use Rattle.std.proofs.Common.{◌≡◌, Bool, List, length, ap, ◌∙◌, arith}
use Rattle.lru_gen.specs.Gens.{GensOf, gens_of}
use Rattle.page_lists.proofs.AgingLemmas.{length-cleared}
use Rattle.aging.proofs.AgeLemmas.{Aged, aged-at}
use Rattle.aging.proofs.promotion.age.Goals as goal
use Rattle.aging.proofs.promotion.age.Goals.{After-promote-2}

pub promote-requires-2-clause-marked : goal.promote-requires-2-clause-marked
promote-requires-2-clause-marked c =
    let p1 : c.merge_if_four.new.gens.pages ≡ c.args.gens.now.pages = ap (λ (s : GensOf). s.pages) c.merge_if_four.ensures in
    let p2 : c.merge_if_four-2.new.gens.pages ≡ c.merge_if_four.new.gens.pages = ap (λ (s : GensOf). s.pages) c.merge_if_four-2.ensures in
    let p3 : c.advance.new.self.pages ≡ c.merge_if_four-2.new.gens.pages = ap (λ (s : GensOf). s.pages) c.advance.ensures.groups in
    let p4 : c.promote.new.gens.pages ≡ c.advance.new.self.pages = ap (λ (s : GensOf). s.pages) c.promote.ensures.gens in
    let size : length c.promote.new.marks ≡ length c.args.marks.now = ap (λ (m : List Bool). length m) c.promote.ensures.marks ∙ length-cleared (gens_of c.advance.new.self c.args.group.0).anon.pages c.args.marks.now in
    omega (arith, p1, p2, p3, p4, size, c.requires.marked)

whole : (c : After-promote-2) → Aged c.args.group.0 c.args.gens.now c.promote-2.new.gens c.args.marks.now c.promote-2.new.marks
whole c =
    aged-at c.args.group.0 c.args.gens.now c.merge_if_four.new.gens c.merge_if_four-2.new.gens c.advance.new.self c.promote.new.gens c.promote-2.new.gens c.args.marks.now c.promote.new.marks c.promote-2.new.marks
    (c.is_sound.ensures.gens.each c.args.group.0) c.requires.group c.merge_if_four.ensures c.merge_if_four-2.ensures c.advance.ensures.groups c.promote.ensures.gens c.promote.ensures.marks c.promote-2.ensures.gens c.promote-2.ensures.marks

pub returns-clause-gens : goal.returns-clause-gens
returns-clause-gens c = (whole (goal.at.returns-clause-gens c).After-promote-2).gens

pub returns-clause-marks : goal.returns-clause-marks
returns-clause-marks c = (whole (goal.at.returns-clause-marks c).After-promote-2).marks
