use Rattle.std.proofs.Common.{◌≡◌, ◌∷◌, [], false, List, All, sym, ap, subst, rules}
use Rattle.std.specs.Prelude.{Result, Ok, Err, IfOk}
use Rattle.std.proofs.lemmas.List.Elements.{All-nil, All-cons}
use Rattle.live.specs.Passes.{PassOf}
use Rattle.live.specs.Matching.{has_share}
use Rattle.callers.proofs.opened.work.Goals as goal

abbrev Rests : PassOf → Type 0
Rests pass = has_share pass.kept ≡ false

rest : {C E : Type 0} (r : Result C E) (passes : C → List PassOf) (shell one two : PassOf) → IfOk r (λ c. passes c ≡ shell ∷ one ∷ two ∷ []) → Rests shell → Rests one → Rests two → IfOk r (λ c. All (λ (p : PassOf). has_share p.kept ≡ false) (passes c))
rest (Ok c) passes shell one two are a b d =
    let P : PassOf → Type 0 = λ p. has_share p.kept ≡ false in
    subst (λ (ps : List PassOf). All P ps) (sym are) (All-cons P shell (one ∷ two ∷ []) a (All-cons P one (two ∷ []) b (All-cons P two [] d (All-nil P))))
rest (Err e) passes shell one two are a b d = tt

pub returns-clause-rest : goal.returns-clause-rest
returns-clause-rest g c =
    let shell : Rests c.in_ok-shell-2.shell.pass = c.in_ok-shell-2.ensures.rest (ap has_share c.in_ok-shell.ensures.kept) in
    let one : Rests c.in_ok-one-2.field-0.pass = search rules in
    let two : Rests c.in_ok-two-2.field-0.pass = search rules in
    rest c.gather.result (λ crew. crew.passes.items) c.in_ok-shell-2.shell.pass c.in_ok-one-2.field-0.pass c.in_ok-two-2.field-0.pass c.gather.ensures.passes shell one two
