use Rattle.std.proofs.Common.{sym, ◌∙◌, arith}
use Rattle.machine.specs.Aging.{has_mark}
use Rattle.machine.specs.Eviction.{old_pages}
use Rattle.lru_gen.specs.Gens.{gens_of}
use Rattle.aging.specs.Groups.{seen_at}
use Rattle.aging.proofs.GroupLemmas.{only-then}
use Rattle.eviction.proofs.TurnLemmas.{no-first, looks-few}
use Rattle.eviction.proofs.AgeLemmas.{usable-some, passed-max}
use Rattle.eviction.proofs.KeptLemmas.{Found, found-at-once, found-aged}
use Rattle.eviction.proofs.choice.pick.Goals as goal
use Rattle.eviction.proofs.choice.pick.Goals.{In-Some, After-age_until_old-aged}

-- ---- the answer is old at once

at_once : (c : In-Some) → Found c.args.group.0 c.args.swap_free c.args.gens.now c.first_unmarked-search.new.gens c.args.marks.now c.first_unmarked-search.new.marks c.in-Some.page.0
at_once c =
    found-at-once c.args.group.0 c.args.swap_free c.args.gens.now c.first_unmarked-search.new.gens c.args.marks.now c.first_unmarked-search.new.marks c.in-Some.page.0 (c.is_sound.ensures.gens.each c.args.group.0) (sym c.has_usable.ensures ∙ c.if-not-has_usable.false)
    c.first_unmarked-search.ensures.only c.first_unmarked-search.ensures.seen (rw c.in-Some.is at c.first_unmarked-search.ensures.page)

pub returns-in-Some-clause-picks : goal.returns-in-Some-clause-picks
returns-in-Some-clause-picks c = (at_once (goal.at.returns-in-Some-clause-picks c).In-Some).picks

pub returns-in-Some-clause-listed : goal.returns-in-Some-clause-listed
returns-in-Some-clause-listed c = (at_once (goal.at.returns-in-Some-clause-listed c).In-Some).listed

pub returns-in-Some-clause-ages : goal.returns-in-Some-clause-ages
returns-in-Some-clause-ages c =
    let same = passed-max c.args.swap_free (seen_at c.args.group.0 c.args.gens.now c.args.marks.now) (seen_at c.args.group.0 c.first_unmarked-search.new.gens c.first_unmarked-search.new.marks) c.first_unmarked-search.ensures.seen in
    omega (arith, same)

pub returns-in-Some-clause-few_looks : goal.returns-in-Some-clause-few_looks
returns-in-Some-clause-few_looks c =
    let start = gens_of c.args.gens.now c.args.group.0 in
    let few = looks-few (has_mark c.args.marks.now) c.args.swap_free start in
    let some = usable-some c.args.swap_free start (sym c.has_usable.ensures ∙ c.if-not-has_usable.false) in
    let looks = rw c.in-Some.is at c.first_unmarked-search.ensures.looks in
    omega (arith, few, some, looks)

pub returns-in-Some-clause-same_pages : goal.returns-in-Some-clause-same_pages
returns-in-Some-clause-same_pages c = (at_once (goal.at.returns-in-Some-clause-same_pages c).In-Some).pages

pub returns-in-Some-clause-other_marks : goal.returns-in-Some-clause-other_marks
returns-in-Some-clause-other_marks c = (at_once (goal.at.returns-in-Some-clause-other_marks c).In-Some).marks

-- ---- the group is aged for it

aged : (c : After-age_until_old-aged) → Found c.args.group.0 c.args.swap_free c.args.gens.now c.age_until_old-aged.new.gens c.args.marks.now c.age_until_old-aged.new.marks c.age_until_old-aged.result.page.0
aged c =
    found-aged c.args.group.0 c.args.swap_free c.args.gens.now c.first_unmarked-search.new.gens c.age_until_old-aged.new.gens c.args.marks.now c.first_unmarked-search.new.marks c.age_until_old-aged.new.marks c.age_until_old-aged.result.page.0 (c.is_sound.ensures.gens.each c.args.group.0)
    (sym c.has_usable.ensures ∙ c.if-not-has_usable.false) c.first_unmarked-search.ensures.only c.age_until_old-aged.ensures.only c.first_unmarked-search.ensures.seen c.age_until_old-aged.ensures.picks

pub age_until_old-aged-requires-clause-none : goal.age_until_old-aged-requires-clause-none
age_until_old-aged-requires-clause-none c = no-first (old_pages c.args.swap_free (gens_of c.first_unmarked-search.new.gens c.args.group.0)) (rw c.in_default.is at c.first_unmarked-search.ensures.page)

pub age_until_old-aged-requires-clause-fits : goal.age_until_old-aged-requires-clause-fits
age_until_old-aged-requires-clause-fits c =
    let same = passed-max c.args.swap_free (seen_at c.args.group.0 c.args.gens.now c.args.marks.now) (seen_at c.args.group.0 c.first_unmarked-search.new.gens c.first_unmarked-search.new.marks) c.first_unmarked-search.ensures.seen in
    omega (arith, same, c.requires.fits)

pub returns-clause-picks : goal.returns-clause-picks
returns-clause-picks c = (aged (goal.at.returns-clause-picks c).After-age_until_old-aged).picks

pub returns-clause-listed : goal.returns-clause-listed
returns-clause-listed c = (aged (goal.at.returns-clause-listed c).After-age_until_old-aged).listed

pub returns-clause-ages : goal.returns-clause-ages
returns-clause-ages c =
    let same = passed-max c.args.swap_free (seen_at c.args.group.0 c.args.gens.now c.args.marks.now) (seen_at c.args.group.0 c.first_unmarked-search.new.gens c.first_unmarked-search.new.marks) c.first_unmarked-search.ensures.seen in
    omega (arith, same, c.age_until_old-aged.ensures.ages)

pub returns-clause-few_looks : goal.returns-clause-few_looks
returns-clause-few_looks c =
    let start = gens_of c.args.gens.now c.args.group.0 in
    let few = looks-few (has_mark c.args.marks.now) c.args.swap_free start in
    let some = usable-some c.args.swap_free start (sym c.has_usable.ensures ∙ c.if-not-has_usable.false) in
    let looks = rw c.in_default.is at c.first_unmarked-search.ensures.looks in
    omega (arith, few, some, looks, c.age_until_old-aged.ensures.looks)

pub returns-clause-same_pages : goal.returns-clause-same_pages
returns-clause-same_pages c = (aged (goal.at.returns-clause-same_pages c).After-age_until_old-aged).pages

pub returns-clause-only : goal.returns-clause-only
returns-clause-only c = only-then c.args.group.0 c.args.gens.now c.first_unmarked-search.new.gens c.age_until_old-aged.new.gens c.first_unmarked-search.ensures.only c.age_until_old-aged.ensures.only

pub returns-clause-other_marks : goal.returns-clause-other_marks
returns-clause-other_marks c = (aged (goal.at.returns-clause-other_marks c).After-age_until_old-aged).marks

pub returns-clause-size : goal.returns-clause-size
returns-clause-size c = (aged (goal.at.returns-clause-size c).After-age_until_old-aged).size
