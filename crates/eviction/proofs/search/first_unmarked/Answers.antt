use Rattle.std.proofs.Common.{◌≡◌, true, refl, sym, ap, ◌∙◌, arith}
use Rattle.machine.specs.Generations.{Gens, is_listed, added, isolated}
use Rattle.machine.specs.Eviction.{settled_gens}
use Rattle.lru_gen.specs.Gens.{gens_of}
use Rattle.aging.specs.Groups.{seen_at}
use Rattle.aging.proofs.GroupLemmas.{change, only-same, only-then, listed-in}
use Rattle.eviction.proofs.TurnLemmas.{how_many-few, goes-on, ends-unmarked, ends-none}
use Rattle.eviction.proofs.search.first_unmarked.Goals as goal

pub loop-old-init : goal.loop-old-init
loop-old-init c = record {
  same = refl;
  looks = omega arith;
  few = (let h = how_many-few c.args.marks.now in omega (arith, h));
  usable = refl;
  only = only-same c.args.group.0 c.args.gens.now;
  group = c.requires.group;
  marked = c.requires.marked;
  size = refl;
}

pub overflow_add-looks : goal.overflow_add-looks
overflow_add-looks c = omega (arith, c.loop-old.invariant.few, c.is_bounded.ensures)

pub is_marked-requires : goal.is_marked-requires
is_marked-requires c =
    let g = c.args.group.0 in
    let p = c.in-Some.old.page.0 in
    let rest = change g c.loop-old.gens c.next_old.new.gens (settled_gens (gens_of c.loop-old.gens g)) c.loop-old.invariant.group c.next_old.ensures.gens in
    let listed : is_listed (gens_of c.next_old.new.gens g) p ≡ true = ap (λ (x : Gens). is_listed x p) rest.gens ∙ c.in-Some.ensures.listed in
    let n = c.is_sound.ensures.numbered p (listed-in c.next_old.new.gens.groups g p listed) in
    omega (arith, n, rest.pages, c.loop-old.invariant.marked)

pub returns-then-not-is_marked-clause-seen : goal.returns-then-not-is_marked-clause-seen
returns-then-not-is_marked-clause-seen c =
    let g = c.args.group.0 in
    let rest = change g c.loop-old.gens c.next_old.new.gens (settled_gens (gens_of c.loop-old.gens g)) c.loop-old.invariant.group c.next_old.ensures.gens in
    (ends-unmarked c.args.swap_free (seen_at g c.loop-old.gens c.loop-old.marks) (gens_of c.next_old.new.gens g) c.in-Some.old.page.0 rest.gens c.in-Some.ensures.page (sym c.is_marked.ensures ∙ c.if-not-is_marked.true)).seen
    ∙ c.loop-old.invariant.same

pub returns-then-not-is_marked-clause-only : goal.returns-then-not-is_marked-clause-only
returns-then-not-is_marked-clause-only c =
    let g = c.args.group.0 in
    let rest = change g c.loop-old.gens c.next_old.new.gens (settled_gens (gens_of c.loop-old.gens g)) c.loop-old.invariant.group c.next_old.ensures.gens in
    only-then g c.args.gens.now c.loop-old.gens c.next_old.new.gens c.loop-old.invariant.only rest.only

pub returns-then-not-is_marked-clause-looks : goal.returns-then-not-is_marked-clause-looks
returns-then-not-is_marked-clause-looks c =
    let g = c.args.group.0 in
    let rest = change g c.loop-old.gens c.next_old.new.gens (settled_gens (gens_of c.loop-old.gens g)) c.loop-old.invariant.group c.next_old.ensures.gens in
    let none = (ends-unmarked c.args.swap_free (seen_at g c.loop-old.gens c.loop-old.marks) (gens_of c.next_old.new.gens g) c.in-Some.old.page.0 rest.gens c.in-Some.ensures.page (sym c.is_marked.ensures ∙ c.if-not-is_marked.true)).looks in
    omega (arith, none, c.loop-old.invariant.looks)

pub loop-old-smaller : goal.loop-old-smaller
loop-old-smaller c =
    let g = c.args.group.0 in
    let p = c.in-Some.old.page.0 in
    let mid : Gens = gens_of c.next_old.new.gens g in
    let rest = change g c.loop-old.gens c.next_old.new.gens (settled_gens (gens_of c.loop-old.gens g)) c.loop-old.invariant.group c.next_old.ensures.gens in
    let moved = change g c.next_old.new.gens c.to_youngest.new.gens (added p c.in-Some.old.kind mid.max_seq (isolated p mid)) rest.group c.to_youngest.ensures.gens in
    (goes-on c.args.swap_free (seen_at g c.loop-old.gens c.loop-old.marks) mid p c.in-Some.old.kind (seen_at g c.to_youngest.new.gens c.to_youngest.new.marks) rest.gens (c.is_sound.ensures.gens.each g) c.in-Some.ensures.page
    (sym c.is_marked.ensures ∙ c.if-not-is_marked.false) c.in-Some.ensures.kind moved.gens c.to_youngest.ensures.marks).less

pub loop-old-preserved : goal.loop-old-preserved
loop-old-preserved c =
    let g = c.args.group.0 in
    let p = c.in-Some.old.page.0 in
    let mid : Gens = gens_of c.next_old.new.gens g in
    let rest = change g c.loop-old.gens c.next_old.new.gens (settled_gens (gens_of c.loop-old.gens g)) c.loop-old.invariant.group c.next_old.ensures.gens in
    let moved = change g c.next_old.new.gens c.to_youngest.new.gens (added p c.in-Some.old.kind mid.max_seq (isolated p mid)) rest.group c.to_youngest.ensures.gens in
    let on = goes-on c.args.swap_free (seen_at g c.loop-old.gens c.loop-old.marks) mid p c.in-Some.old.kind (seen_at g c.to_youngest.new.gens c.to_youngest.new.marks) rest.gens (c.is_sound.ensures.gens.each g) c.in-Some.ensures.page
    (sym c.is_marked.ensures ∙ c.if-not-is_marked.false) c.in-Some.ensures.kind moved.gens c.to_youngest.ensures.marks in
    record {
      same = on.same ∙ c.loop-old.invariant.same;
      looks = omega (arith, on.looks, c.loop-old.invariant.looks);
      few = omega (arith, on.few, c.loop-old.invariant.few);
      usable = on.usable ∙ c.loop-old.invariant.usable;
      only = only-then g c.args.gens.now c.next_old.new.gens c.to_youngest.new.gens (only-then g c.args.gens.now c.loop-old.gens c.next_old.new.gens c.loop-old.invariant.only rest.only) moved.only;
      group = moved.group;
      marked = omega (arith, rest.pages, moved.pages, on.size, c.loop-old.invariant.marked);
      size = on.size ∙ c.loop-old.invariant.size;
    }

pub returns-clause-seen : goal.returns-clause-seen
returns-clause-seen c =
    let g = c.args.group.0 in
    let rest = change g c.loop-old.gens c.next_old.new.gens (settled_gens (gens_of c.loop-old.gens g)) c.loop-old.invariant.group c.next_old.ensures.gens in
    (ends-none c.args.swap_free (seen_at g c.loop-old.gens c.loop-old.marks) (gens_of c.next_old.new.gens g) rest.gens (rw c.in_default.is at c.next_old.ensures.page)).seen ∙ c.loop-old.invariant.same

pub returns-clause-only : goal.returns-clause-only
returns-clause-only c =
    let g = c.args.group.0 in
    let rest = change g c.loop-old.gens c.next_old.new.gens (settled_gens (gens_of c.loop-old.gens g)) c.loop-old.invariant.group c.next_old.ensures.gens in
    only-then g c.args.gens.now c.loop-old.gens c.next_old.new.gens c.loop-old.invariant.only rest.only

pub returns-clause-looks : goal.returns-clause-looks
returns-clause-looks c =
    let g = c.args.group.0 in
    let rest = change g c.loop-old.gens c.next_old.new.gens (settled_gens (gens_of c.loop-old.gens g)) c.loop-old.invariant.group c.next_old.ensures.gens in
    let none = (ends-none c.args.swap_free (seen_at g c.loop-old.gens c.loop-old.marks) (gens_of c.next_old.new.gens g) rest.gens (rw c.in_default.is at c.next_old.ensures.page)).looks in
    omega (arith, none, c.loop-old.invariant.looks)
