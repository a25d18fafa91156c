use Rattle.std.proofs.Common.{◌≡◌, Bool, false, List, length, Option, option_map, length-set, sym, ap, ◌∙◌, arith}
use Rattle.machine.specs.declared.id.PageId.{PageId}
use Rattle.machine.specs.Generations.{Gens, row_of, added, isolated}
use Rattle.lru_gen.specs.Gens.{gens_of}
use Rattle.lru_gen.proofs.KindLemmas.{row_listed}
use Rattle.aging.proofs.GroupLemmas.{change, only-same, only-then, listed-in}
use Rattle.aging.proofs.PromoteLemmas.{next-is, starts, passes, moves}
use Rattle.aging.proofs.promotion.promote.Goals as goal

pub loop-next-init : goal.loop-next-init
loop-next-init c =
    let s = starts c.args.kind (gens_of c.args.gens.now c.args.group.0) c.args.marks.now (option_map (λ (p : PageId). p.0) c.first-next.result) c.first-next.ensures in
    record { gens = s.gens; marks = s.marks; there = s.there; only = only-same c.args.group.0 c.args.gens.now; group = c.requires.group; marked = c.requires.marked }

pub is_marked-requires : goal.is_marked-requires
is_marked-requires c =
    let g = c.args.group.0 in
    let p = c.in-Some.page.0 in
    let h = next-is (row_of c.args.kind (gens_of c.loop-next.gens g)).pages _ p (ap (λ (n : Option PageId). option_map (λ (q : PageId). q.0) n) c.in-Some.is) c.loop-next.invariant.there in
    let n = c.is_sound.ensures.numbered p (listed-in c.loop-next.gens.groups g p (row_listed (gens_of c.loop-next.gens g) p c.args.kind h)) in
    omega (arith, n, c.loop-next.invariant.marked)

pub loop-next-smaller-then-not-is_marked : goal.loop-next-smaller-then-not-is_marked
loop-next-smaller-then-not-is_marked c =
    (passes c.args.kind (gens_of c.loop-next.gens c.args.group.0) c.loop-next.marks c.in-Some.page.0 _ _ (c.is_sound.ensures.gens.each c.args.group.0) (ap (λ (n : Option PageId). option_map (λ (q : PageId). q.0) n) c.in-Some.is) c.loop-next.invariant.there
    (sym c.is_marked.ensures ∙ c.if-not-is_marked.true) c.after-next.ensures).less

pub loop-next-preserved-then-not-is_marked : goal.loop-next-preserved-then-not-is_marked
loop-next-preserved-then-not-is_marked c =
    let s = passes c.args.kind (gens_of c.loop-next.gens c.args.group.0) c.loop-next.marks c.in-Some.page.0 _ _ (c.is_sound.ensures.gens.each c.args.group.0) (ap (λ (n : Option PageId). option_map (λ (q : PageId). q.0) n) c.in-Some.is) c.loop-next.invariant.there
    (sym c.is_marked.ensures ∙ c.if-not-is_marked.true) c.after-next.ensures in
    record {
      gens = s.gens ∙ c.loop-next.invariant.gens;
      marks = s.marks ∙ c.loop-next.invariant.marks;
      there = s.there;
      only = c.loop-next.invariant.only;
      group = c.loop-next.invariant.group;
      marked = c.loop-next.invariant.marked;
    }

pub loop-next-smaller : goal.loop-next-smaller
loop-next-smaller c =
    let g = c.args.group.0 in
    let now : Gens = gens_of c.loop-next.gens g in
    let p = c.in-Some.page.0 in
    let moved = change g c.loop-next.gens c.to_youngest.new.gens (added p c.args.kind now.max_seq (isolated p now)) c.loop-next.invariant.group c.to_youngest.ensures.gens in
    (moves c.args.kind now (gens_of c.to_youngest.new.gens g) c.loop-next.marks c.to_youngest.new.marks p _ _ (c.is_sound.ensures.gens.each g) (ap (λ (n : Option PageId). option_map (λ (q : PageId). q.0) n) c.in-Some.is) c.loop-next.invariant.there
    (sym c.is_marked.ensures ∙ c.if-not-is_marked.false) c.after-next.ensures moved.gens c.to_youngest.ensures.marks).less

pub loop-next-preserved : goal.loop-next-preserved
loop-next-preserved c =
    let g = c.args.group.0 in
    let now : Gens = gens_of c.loop-next.gens g in
    let p = c.in-Some.page.0 in
    let moved = change g c.loop-next.gens c.to_youngest.new.gens (added p c.args.kind now.max_seq (isolated p now)) c.loop-next.invariant.group c.to_youngest.ensures.gens in
    let s = moves c.args.kind now (gens_of c.to_youngest.new.gens g) c.loop-next.marks c.to_youngest.new.marks p _ _ (c.is_sound.ensures.gens.each g) (ap (λ (n : Option PageId). option_map (λ (q : PageId). q.0) n) c.in-Some.is) c.loop-next.invariant.there
    (sym c.is_marked.ensures ∙ c.if-not-is_marked.false) c.after-next.ensures moved.gens c.to_youngest.ensures.marks in
    let size : length c.to_youngest.new.marks ≡ length c.loop-next.marks = ap (λ (m : List Bool). length m) c.to_youngest.ensures.marks ∙ length-set c.loop-next.marks p false in
    record {
      gens = s.gens ∙ c.loop-next.invariant.gens;
      marks = s.marks ∙ c.loop-next.invariant.marks;
      there = s.there;
      only = only-then g c.args.gens.now c.loop-next.gens c.to_youngest.new.gens c.loop-next.invariant.only moved.only;
      group = moved.group;
      marked = omega (arith, moved.pages, size, c.loop-next.invariant.marked);
    }
