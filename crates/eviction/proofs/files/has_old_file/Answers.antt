use Rattle.std.proofs.Common.{◌≡◌, ℕ, true, List, [], Option, Some, length, option_map, IfSome, sym, ap, ◌∙◌, subst, arith}
use Rattle.machine.specs.declared.id.PageId.{PageId}
use Rattle.machine.specs.declared.record.Kind.TheVariants.{File}
use Rattle.machine.specs.Generations.{Listed, has_page, AreDistinct}
use Rattle.machine.specs.Eviction.{is_old, old_of}
use Rattle.page_lists.proofs.ListedLemmas.{has-filter, distinct-filter}
use Rattle.lru_gen.specs.Gens.{GensOf, gens_of, IsSound}
use Rattle.lru_gen.proofs.KindLemmas.{sound_distinct, row_listed}
use Rattle.lru_gen.proofs.SearchLemmas.{first_is_there, after_is_there}
use Rattle.aging.proofs.GroupLemmas.{listed-in}
use Rattle.aging.proofs.PromoteLemmas.{rest_of}
use Rattle.eviction.proofs.FileLemmas.{has_unmarked, rest-last, found-unmarked, passed-marked, fewer-behind}
use Rattle.eviction.proofs.files.has_old_file.Goals as goal
use Rattle.eviction.proofs.files.has_old_file.Goals.{In-Some}

-- the old pages of files
abbrev old_files : GensOf → ℕ → List Listed
old_files gens g = old_of (gens_of gens g).max_seq (gens_of gens g).file.pages

-- none of them is there twice
apart : (gens : GensOf) (g : ℕ) → IsSound gens → AreDistinct (old_files gens g)
apart gens g sound = distinct-filter (is_old (gens_of gens g).max_seq) (gens_of gens g).file.pages (sound_distinct (sound.gens.each g) File)

-- the page that is met is an old one
there : (c : In-Some) → has_page c.in-Some.page.0 (old_files c.args.gens.now c.args.group.0) ≡ true
there c = subst (λ (next : Option PageId). IfSome next (λ (p : PageId). has_page p.0 (old_files c.args.gens.now c.args.group.0) ≡ true)) c.in-Some.is c.loop-next.invariant.there

-- the pages from it on
from : (c : In-Some) → rest_of (option_map (λ (p : PageId). p.0) c.loop-next.next) (old_files c.args.gens.now c.args.group.0) ≡ rest_of (Some c.in-Some.page.0) (old_files c.args.gens.now c.args.group.0)
from c = ap (λ (next : Option PageId). rest_of (option_map (λ (p : PageId). p.0) next) (old_files c.args.gens.now c.args.group.0)) c.in-Some.is

pub loop-next-init : goal.loop-next-init
loop-next-init c =
    let old = old_files c.args.gens.now c.args.group.0 in
    record {
      there = first_is_there c.first_old-next.result old c.first_old-next.ensures;
      same =
          ap (λ (next : Option ℕ). has_unmarked c.args.marks.now (rest_of next old)) c.first_old-next.ensures
          ∙ ap (has_unmarked c.args.marks.now) (rest-last [] old (apart c.args.gens.now c.args.group.0 c.is_sound.ensures));
    }

pub is_marked-requires : goal.is_marked-requires
is_marked-requires c =
    let g = c.args.group.0 in
    let p = c.in-Some.page.0 in
    let gens = gens_of c.args.gens.now g in
    let listed = row_listed gens p File (has-filter (is_old gens.max_seq) p gens.file.pages (there c)) in
    let numbered = c.is_sound.ensures.numbered p (listed-in c.args.gens.now.groups g p listed) in
    omega arith

pub returns-then-not-is_marked : goal.returns-then-not-is_marked
returns-then-not-is_marked c =
    let at = (goal.at.returns-then-not-is_marked c).In-Some in
    sym (sym c.loop-next.invariant.same ∙ ap (has_unmarked c.args.marks.now) (from at)
    ∙ found-unmarked c.in-Some.page.0 (old_files c.args.gens.now c.args.group.0) (apart c.args.gens.now c.args.group.0 c.is_sound.ensures) (there at) c.args.marks.now (sym c.is_marked.ensures ∙ c.if-not-is_marked.true))

pub old_after-next-requires-clause-listed : goal.old_after-next-requires-clause-listed
old_after-next-requires-clause-listed c = there (goal.at.old_after-next-requires-clause-listed c).In-Some

pub loop-next-smaller : goal.loop-next-smaller
loop-next-smaller c =
    let old = old_files c.args.gens.now c.args.group.0 in
    let at = (goal.at.loop-next-smaller c).In-Some in
    let less = fewer-behind c.in-Some.page.0 old (apart c.args.gens.now c.args.group.0 c.is_sound.ensures) (there at) in
    let before = ap (λ (xs : List Listed). length xs) (from at) in
    let after = ap (λ (next : Option ℕ). length (rest_of next old)) c.old_after-next.ensures in
    omega arith

pub loop-next-preserved : goal.loop-next-preserved
loop-next-preserved c =
    let old = old_files c.args.gens.now c.args.group.0 in
    let at = (goal.at.loop-next-preserved c).In-Some in
    record {
      there = after_is_there c.old_after-next.result c.in-Some.page.0 old c.old_after-next.ensures;
      same =
          ap (λ (next : Option ℕ). has_unmarked c.args.marks.now (rest_of next old)) c.old_after-next.ensures
          ∙ passed-marked c.in-Some.page.0 old (apart c.args.gens.now c.args.group.0 c.is_sound.ensures) (there at) c.args.marks.now (sym c.is_marked.ensures ∙ c.if-not-is_marked.false)
          ∙ sym (ap (has_unmarked c.args.marks.now) (from at))
          ∙ c.loop-next.invariant.same;
    }

pub returns : goal.returns
returns c = ap (λ (next : Option PageId). has_unmarked c.args.marks.now (rest_of (option_map (λ (p : PageId). p.0) next) (old_files c.args.gens.now c.args.group.0))) (sym c.in_default.is) ∙ c.loop-next.invariant.same
