use Rattle.std.proofs.Common.{ℕ, List, reverse, subst, Bool}
use Rattle.std.specs.Prelude.{MatchBool, slice_index}
use Rattle.machine.specs.History.{last}
use Rattle.machine.specs.FirstBytes.{first_of, files_of}
use Rattle.machine.specs.Audit.{before}
use Rattle.trace.specs.Walks.{spot_in}
use Rattle.trace.specs.Links.{wrote, wrote_at}
use Rattle.trace.specs.Settled.{RestIs, Settles}
use Rattle.trace.proofs.SettledLemmas.{settled-as, settled-none, settled-ends, settled-known}
use Rattle.trace.proofs.LinkLemmas.{last-earlier}
use Rattle.trace.proofs.arrival.is_last.Goals as goal

pub walk-init : goal.walk-init
walk-init c =
    let xs = c.args.trace.now.entries in
    let written = λ (o : ℕ). last (first_of (reverse xs)) (before xs c.args.stand.at) (spot_in c.args.stand.page o) in
    (settled-none c.args.bytes.now written, c.requires.stand)

pub returns-in-Some : goal.returns-in-Some
returns-in-Some c =
    let xs = c.args.trace.now.entries in
    let written = λ (o : ℕ). last (first_of (reverse xs)) (before xs c.args.stand.at) (spot_in c.args.stand.page o) in
    let here = λ (o : ℕ). last (first_of (reverse xs)) (before xs c.walk.stand.at) (spot_in c.walk.stand.page o) in
    let rest = subst (λ (k : List ℕ). let same = RestIs c.args.bytes.now c.walk.settled (slice_index k) in MatchBool c.rest_agrees.result same (same → ⊥)) c.bytes.ensures c.rest_agrees.ensures in
    settled-known c.args.bytes.now c.walk.settled written here c.in-Some.known.now c.rest_agrees.result c.walk.invariant.0 c.in-Some.ensures rest

pub returns-in-Unknown : goal.returns-in-Unknown
returns-in-Unknown c =
    let xs = c.args.trace.now.entries in
    let written = λ (o : ℕ). last (first_of (reverse xs)) (before xs c.args.stand.at) (spot_in c.args.stand.page o) in
    c.rest_is_last.ensures written c.walk.invariant.0

pub returns-in-First : goal.returns-in-First
returns-in-First c =
    let xs = c.args.trace.now.entries in
    let files = files_of (reverse xs) in
    let written = λ (o : ℕ). last (first_of (reverse xs)) (before xs c.args.stand.at) (spot_in c.args.stand.page o) in
    let here = λ (o : ℕ). last (first_of (reverse xs)) (before xs c.walk.stand.at) (spot_in c.walk.stand.page o) in
    let first = λ (o : ℕ). first_of (reverse xs) (spot_in c.walk.stand.page o) in
    let settled = settled-as c.args.bytes.now c.walk.settled written here first c.walk.invariant.0 (c.in-First.ensures files) in
    settled-ends c.args.bytes.now c.walk.settled written first c.rest_is_first.result settled c.rest_is_first.ensures

pub returns-then-not-settle_own : goal.returns-then-not-settle_own
returns-then-not-settle_own c =
    let xs = c.args.trace.now.entries in
    let files = files_of (reverse xs) in
    let written = λ (o : ℕ). last (first_of (reverse xs)) (before xs c.args.stand.at) (spot_in c.args.stand.page o) in
    let here = λ (o : ℕ). last (first_of (reverse xs)) (before xs c.walk.stand.at) (spot_in c.walk.stand.page o) in
    let there = λ (o : ℕ). last (first_of (reverse xs)) (before xs c.in-Entry.earlier.at) (spot_in c.in-Entry.earlier.page o) in
    let e = c.entry.result.now in
    let settled = settled-as c.args.bytes.now c.walk.settled written here (wrote_at (wrote e.event e.reply) there) c.walk.invariant.0
    (λ o. last-earlier files xs c.walk.stand c.in-Entry.earlier e o c.walk.invariant.1.within c.in-Entry.ensures c.entry.ensures) in
    subst (λ (r : Bool). Settles r c.args.bytes.now c.settle_own.new.settled written there) c.if-not-settle_own.true (c.settle_own.ensures written there settled)

pub walk-preserved : goal.walk-preserved
walk-preserved c =
    let xs = c.args.trace.now.entries in
    let files = files_of (reverse xs) in
    let written = λ (o : ℕ). last (first_of (reverse xs)) (before xs c.args.stand.at) (spot_in c.args.stand.page o) in
    let here = λ (o : ℕ). last (first_of (reverse xs)) (before xs c.walk.stand.at) (spot_in c.walk.stand.page o) in
    let there = λ (o : ℕ). last (first_of (reverse xs)) (before xs c.in-Entry.earlier.at) (spot_in c.in-Entry.earlier.page o) in
    let e = c.entry.result.now in
    let settled = settled-as c.args.bytes.now c.walk.settled written here (wrote_at (wrote e.event e.reply) there) c.walk.invariant.0
    (λ o. last-earlier files xs c.walk.stand c.in-Entry.earlier e o c.walk.invariant.1.within c.in-Entry.ensures c.entry.ensures) in
    (subst (λ (r : Bool). Settles r c.args.bytes.now c.settle_own.new.settled written there) c.if-not-settle_own.false (c.settle_own.ensures written there settled), c.in-Entry.ensures.stands)
