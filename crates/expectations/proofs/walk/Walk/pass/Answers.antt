use Rattle.std.proofs.Common.{◌≡◌, true, drop, Result, Ok, Err, MatchResult}
use Rattle.expectations.specs.Expected.{is_expected}
use Rattle.expectations.proofs.StepLemmas.{passes, stops}
use Rattle.expectations.proofs.walk.Walk.pass.Goals as goal

follows : {T E : Type 0} (r : Result T E) (P P' : T → Type 0) (Q Q' : E → Type 0) → MatchResult r P Q → ((x : T) → P x → P' x) → ((e : E) → Q e → Q' e) → MatchResult r P' Q'
follows (Ok x) P P' Q Q' h f g = f x h
follows (Err e) P P' Q Q' h f g = g e h

pub returns-in-Some : goal.returns-in-Some
returns-in-Some c =
    let self = c.args.self in
    let expected : is_expected c.args.line.now ≡ true = c.in-Some.ensures.cases.0 in
    let text : c.in-Some.text.now ≡ drop 3 c.args.line.now = c.in-Some.ensures.cases.1 in
    follows c.meet.result _ _ _ _ c.meet.ensures
    (λ w h. rw (h.0, h.1) (passes c.args.number self.after self.last c.args.line.now self.output.now self.numbers.now w.output.now w.numbers.now expected (rw (← text) h.2)))
    (λ told h. stops c.args.number self.after self.last c.args.line.now self.output.now self.numbers.now told expected (rw (← text) h.0) (rw (← text) h.1))
