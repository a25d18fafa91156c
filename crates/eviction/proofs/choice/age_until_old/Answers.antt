use Rattle.std.proofs.Common.{◌≡◌, ℕ, ◌+◌, ◌<◌, ◌≤◌, Bool, List, [], length, Some, sym, ap, ◌∙◌, subst, arith, ⊎_elim}
use Rattle.std.proofs.lemmas.Bool.{cases_lt}
use Rattle.machine.specs.Generations.{Gens, listed}
use Rattle.machine.specs.Aging.{Seen, aged}
use Rattle.machine.specs.Eviction.{old_pages, AgesToOld}
use Rattle.lru_gen.specs.Gens.{GensOf, gens_of}
use Rattle.aging.specs.Groups.{seen_at}
use Rattle.page_lists.proofs.AgingLemmas.{length-cleared}
use Rattle.aging.proofs.GroupLemmas.{change, only-same, only-then, only-group}
use Rattle.eviction.proofs.TurnLemmas.{no-first}
use Rattle.eviction.proofs.AgeLemmas.{Holds, holds-first, holds-aged, holds-settled, old-there, at-once, once-more, searched, looks-aged, aged-seen}
use Rattle.eviction.proofs.choice.age_until_old.Goals as goal

pub loop-page-init : goal.loop-page-init
loop-page-init c =
    let g = c.args.group.0 in
    let start : Seen = seen_at g c.args.gens.now c.args.marks.now in
    record {
      picks = λ answer to a. once-more c.args.swap_free start answer to c.requires.none
          (subst (λ (x : Gens). AgesToOld c.args.swap_free (aged (record { gens = x; marks = c.args.marks.now })) answer to) c.requires.settled a);
      ages = omega arith;
      few = omega arith;
      holds = holds-first c.args.swap_free start (c.is_sound.ensures.gens.each g) c.requires.usable;
      only = only-same g c.args.gens.now;
      group = c.requires.group;
      marked = c.requires.marked;
    }

pub first_unmarked-search-requires-clause-marked : goal.first_unmarked-search-requires-clause-marked
first_unmarked-search-requires-clause-marked c =
    let pages : c.age.new.gens.pages ≡ c.loop-page.gens.pages = ap (λ (s : GensOf). s.pages) c.age.ensures.gens in
    let size : length c.age.new.marks ≡ length c.loop-page.marks = ap (λ (m : List Bool). length m) c.age.ensures.marks ∙ length-cleared (listed (gens_of c.loop-page.gens c.args.group.0)) c.loop-page.marks in
    omega (arith, pages, size, c.loop-page.invariant.marked)

pub returns-in-Some-clause-picks : goal.returns-in-Some-clause-picks
returns-in-Some-clause-picks c =
    let g = c.args.group.0 in
    let now : Seen = seen_at g c.loop-page.gens c.loop-page.marks in
    let new : Seen = seen_at g c.first_unmarked-search.new.gens c.first_unmarked-search.new.marks in
    let there = searched c.args.swap_free now (seen_at g c.age.new.gens c.age.new.marks) new (aged-seen g c.loop-page.gens c.age.new.gens c.loop-page.marks c.age.new.marks c.loop-page.invariant.group c.age.ensures.gens c.age.ensures.marks) c.first_unmarked-search.ensures.seen in
    c.loop-page.invariant.picks (Some c.in-Some.page.0) new (at-once c.args.swap_free (aged now) new c.in-Some.page.0 there (rw c.in-Some.is at c.first_unmarked-search.ensures.page))

pub returns-in-Some-clause-only : goal.returns-in-Some-clause-only
returns-in-Some-clause-only c =
    let g = c.args.group.0 in
    let aging = change g c.loop-page.gens c.age.new.gens (aged (seen_at g c.loop-page.gens c.loop-page.marks)).gens c.loop-page.invariant.group c.age.ensures.gens in
    only-then g c.args.gens.now c.age.new.gens c.first_unmarked-search.new.gens (only-then g c.args.gens.now c.loop-page.gens c.age.new.gens c.loop-page.invariant.only aging.only) c.first_unmarked-search.ensures.only

pub returns-in-Some-clause-ages : goal.returns-in-Some-clause-ages
returns-in-Some-clause-ages c =
    let g = c.args.group.0 in
    let now : Seen = seen_at g c.loop-page.gens c.loop-page.marks in
    let new : Seen = seen_at g c.first_unmarked-search.new.gens c.first_unmarked-search.new.marks in
    let there = searched c.args.swap_free now (seen_at g c.age.new.gens c.age.new.marks) new (aged-seen g c.loop-page.gens c.age.new.gens c.loop-page.marks c.age.new.marks c.loop-page.invariant.group c.age.ensures.gens c.age.ensures.marks) c.first_unmarked-search.ensures.seen in
    let one : new.gens.max_seq ≡ now.gens.max_seq + 1 = ap (λ (x : Seen). x.gens.max_seq) there in
    omega (arith, one, c.loop-page.invariant.ages)

pub returns-in-Some-clause-looks : goal.returns-in-Some-clause-looks
returns-in-Some-clause-looks c =
    let g = c.args.group.0 in
    let none = looks-aged c.args.swap_free (seen_at g c.loop-page.gens c.loop-page.marks) (seen_at g c.age.new.gens c.age.new.marks)
    (aged-seen g c.loop-page.gens c.age.new.gens c.loop-page.marks c.age.new.marks c.loop-page.invariant.group c.age.ensures.gens c.age.ensures.marks) in
    let looks = rw c.in-Some.is at c.first_unmarked-search.ensures.looks in
    omega (arith, none, looks)

pub loop-page-preserved : goal.loop-page-preserved
loop-page-preserved c =
    let g = c.args.group.0 in
    let now : Seen = seen_at g c.loop-page.gens c.loop-page.marks in
    let new : Seen = seen_at g c.first_unmarked-search.new.gens c.first_unmarked-search.new.marks in
    let top : ℕ = (gens_of c.args.gens.now g).max_seq + 1 in
    let aging = change g c.loop-page.gens c.age.new.gens (aged now).gens c.loop-page.invariant.group c.age.ensures.gens in
    let only = only-then g c.args.gens.now c.age.new.gens c.first_unmarked-search.new.gens (only-then g c.args.gens.now c.loop-page.gens c.age.new.gens c.loop-page.invariant.only aging.only) c.first_unmarked-search.ensures.only in
    let there = searched c.args.swap_free now (seen_at g c.age.new.gens c.age.new.marks) new (aged-seen g c.loop-page.gens c.age.new.gens c.loop-page.marks c.age.new.marks c.loop-page.invariant.group c.age.ensures.gens c.age.ensures.marks) c.first_unmarked-search.ensures.seen in
    let few : now.gens.max_seq ≤ top + 1 = omega (arith, c.loop-page.invariant.ages, c.loop-page.invariant.few) in
    let one : new.gens.max_seq ≡ now.gens.max_seq + 1 = ap (λ (x : Seen). x.gens.max_seq) there in
    let holds = holds-aged c.args.swap_free top now few c.loop-page.invariant.holds in
    let none_new = no-first (old_pages c.args.swap_free new.gens) (rw c.in_default.is at c.first_unmarked-search.ensures.page) in
    let none : old_pages c.args.swap_free (aged now).gens ≡ [] = sym (ap (λ (x : Seen). old_pages c.args.swap_free x.gens) there) ∙ none_new in
    let pages : c.age.new.gens.pages ≡ c.loop-page.gens.pages = ap (λ (s : GensOf). s.pages) c.age.ensures.gens in
    let searched_pages : c.first_unmarked-search.new.gens.pages ≡ c.age.new.gens.pages = ap (λ (s : GensOf). s.pages) c.first_unmarked-search.ensures.only in
    let size : length c.age.new.marks ≡ length c.loop-page.marks = ap (λ (m : List Bool). length m) c.age.ensures.marks ∙ length-cleared (listed now.gens) c.loop-page.marks in
    record {
      picks = λ answer to a. c.loop-page.invariant.picks answer to
          (once-more c.args.swap_free (aged now) answer to none (subst (λ (x : Seen). AgesToOld c.args.swap_free (aged x) answer to) there a));
      ages = omega (arith, one, c.loop-page.invariant.ages);
      few = ⊎_elim (λ lt. omega arith) (λ le. absurd (let more : top + 1 < (aged now).gens.max_seq = omega (arith, c.loop-page.invariant.ages) in old-there c.args.swap_free top (aged now) holds more none)) (cases_lt (c.loop-page.ages + 1) 3);
      holds = subst (λ (x : Seen). Holds c.args.swap_free top x) (sym there) (holds-settled c.args.swap_free top (aged now) holds);
      only = only;
      group = only-group g c.args.gens.now c.first_unmarked-search.new.gens c.requires.group only;
      marked = omega (arith, pages, searched_pages, size, c.first_unmarked-search.ensures.size, c.loop-page.invariant.marked);
    }
