use Rattle.std.proofs.Common.{◌∙◌, ◌++◌, ◌∷◌, [], None, Some, length, refl, ap, subst}
use Rattle.machine.specs.Pages.{Pages}
use Rattle.pages.specs.Records.{page_of}
use Rattle.page_state.specs.Owned.{pages_of, AreKept}
use Rattle.page_state.proofs.PartsLemmas.{kept-step, pages-pop, last-stood, last-goes}
use Rattle.page_state.proofs.release.release_last.Goals as goal

pub release-requires : goal.release-requires
release-requires c =
    let last = c.in-Some-Some.last in
    let rest = pages_of c.pop.new.self.items in
    let popped = pages-pop c.args.owned.now.items c.pop.new.self.items c.pop.result (Some last) c.pop.ensures.items (c.in-Some-Some.is ∙ ap Some c.in-Some-Some.field-0-is) in
    record {
      pages = rest ++ Some (page_of last) ∷ [];
      rest = rest;
      p = length rest;
      stood = last-stood rest _;
      gone = last-goes rest _;
      kept = subst (λ (ps : Pages). AreKept c.args.counters.now c.args.pool.now c.args.slots.now ps) popped c.requires;
    }

pub returns-in-Some-None-clause-kept : goal.returns-in-Some-None-clause-kept
returns-in-Some-None-clause-kept c =
    let rest = pages_of c.pop.new.self.items in
    let popped = pages-pop c.args.owned.now.items c.pop.new.self.items c.pop.result None c.pop.ensures.items (c.in-Some-None.is ∙ ap Some c.in-Some-None.field-0-is) in
    kept-step c.args.counters.now c.args.counters.now c.args.pool.now c.args.pool.now c.args.slots.now c.args.slots.now _ rest (length rest) None None (last-stood rest None) (last-goes rest None) refl
    (record { counts = λ n. refl; len = refl })
    refl
    (record { counts = λ n. refl; len = refl })
    (record { tree = refl; usage = λ a lt. refl; live = tt })
    (subst (λ (ps : Pages). AreKept c.args.counters.now c.args.pool.now c.args.slots.now ps) popped c.requires)

pub returns-in-Some-Some-clause-kept : goal.returns-in-Some-Some-clause-kept
returns-in-Some-Some-clause-kept c =
    let last = c.in-Some-Some.last in
    let rest = pages_of c.pop.new.self.items in
    let popped = pages-pop c.args.owned.now.items c.pop.new.self.items c.pop.result (Some last) c.pop.ensures.items (c.in-Some-Some.is ∙ ap Some c.in-Some-Some.field-0-is) in
    c.release.ensures.releases _ rest (length rest) (last-stood rest _) (last-goes rest _) (subst (λ (ps : Pages). AreKept c.args.counters.now c.args.pool.now c.args.slots.now ps) popped c.requires)
