-- As many passes are handed in as were given out, and none has a ticket out.
use Rattle.std.proofs.Common.{◌≡◌, inl, inr, ℕ, zero, suc, ◌+◌, ◌<◌, false, List, [], ◌∷◌, ◌++◌, length, refl, sym, ap, ◌∙◌, subst, arith}
use Rattle.std.specs.Prelude.{slice_index_or, slice_set}
use Rattle.std.proofs.lemmas.List.{map-append, length_push}
use Rattle.machine.specs.declared.command.Actor.{Actor}
use Rattle.machine.specs.declared.command.Command.{Command}
use Rattle.machine.specs.declared.command.Reply.{Reply}
use Rattle.machine.specs.State.{Opening}
use Rattle.book.specs.declared.kept.Kept.{Kept}
use Rattle.live.specs.Passes.{PassOf}
use Rattle.live.specs.Crews.{WorkerOf}
use Rattle.live.specs.Matching.{has_share}
use Rattle.thread_runs.specs.Crews.{place_of, Hires, Asked, Counts}
use Rattle.thread_runs.specs.Rounds.{passes_in, AreAtRest}
use Rattle.thread_runs.proofs.Boards.{EachWorked}

-- ---- at rest

pub rest-append : (ps qs : List PassOf) → AreAtRest ps → AreAtRest qs → AreAtRest (ps ++ qs)
rest-append [] qs one two = two
rest-append (p ∷ ps) qs one two = (one.0, rest-append ps qs one.1 two)

pub rest-parts : (ps qs : List PassOf) → AreAtRest (ps ++ qs) → AreAtRest ps × AreAtRest qs
rest-parts [] qs h = (tt, h)
rest-parts (p ∷ ps) qs h = let later = rest-parts ps qs h.1 in ((h.0, later.0), later.1)

pub rest-fresh : (kept : List Kept) → kept ≡ [] → has_share kept ≡ false
rest-fresh kept fresh = ap has_share fresh

pub passes-append : (ws vs : List WorkerOf) → passes_in (ws ++ vs) ≡ passes_in ws ++ passes_in vs
passes-append ws vs = map-append (λ (w : WorkerOf). w.pass) ws vs

pub hires-rest : (who : Actor) (commands : List Command) (old new : List WorkerOf) → Hires who commands old new → AreAtRest (passes_in old) → AreAtRest (passes_in new)
hires-rest who commands old new h rest =
    subst AreAtRest (sym (ap passes_in h.hired ∙ passes-append old _)) (rest-append (passes_in old) (h.pass ∷ []) rest (rest-fresh h.pass.kept h.unused, tt))

set-rest : (ws : List WorkerOf) (k : ℕ) (w : WorkerOf) → k < length ws → AreAtRest (passes_in ws) → (has_share (slice_index_or ws k w).pass.kept ≡ false → has_share w.pass.kept ≡ false) → AreAtRest (passes_in (slice_set ws k w))
set-rest [] k w within rest on = absurd (omega arith)
set-rest (v ∷ ws) zero w within rest on = (on rest.0, rest.1)
set-rest (v ∷ ws) (suc k) w within rest on = (rest.0, set-rest ws k w (omega arith) rest.1 on)

pub asked-rest : (opening : Opening) (who : Actor) (command : Command) (old new : List WorkerOf) (said : List Reply) → Asked opening who command old new said → AreAtRest (passes_in old) → AreAtRest (passes_in new)
asked-rest opening who command old new said h rest =
    let mid : AreAtRest (passes_in h.mid) = elim h.there [
      | inl same ↦ subst (λ (ws : List WorkerOf). AreAtRest (passes_in ws)) (sym same) rest
      | inr hired ↦ hires-rest who [] old h.mid hired rest
    ] in
    subst (λ (ws : List WorkerOf). AreAtRest (passes_in ws)) (sym h.changed) (set-rest h.mid (place_of who h.mid) h.worker h.within mid h.answered.rest)

pub worked-rest : (opening : Opening) (ws vs : List WorkerOf) → EachWorked opening ws vs → AreAtRest (passes_in ws) → AreAtRest (passes_in vs)
worked-rest opening [] vs h rest = subst (λ (us : List WorkerOf). AreAtRest (passes_in us)) (sym h) rest
worked-rest opening (w ∷ ws) [] h rest = absurd h
worked-rest opening (w ∷ ws) (v ∷ vs) h rest = (h.0.rest rest.0, worked-rest opening ws vs h.1 rest.1)

-- ---- how many there are

pub counts-both : (a b c : ℕ) (us vs ws : List WorkerOf) → Counts a us b vs → Counts b vs c ws → Counts a us c ws
counts-both a b c us vs ws one two = omega (arith, one, two)

pub counts-same : (a : ℕ) (us vs : List WorkerOf) → vs ≡ us → Counts a us a vs
counts-same a us vs same = ap (λ (ws : List WorkerOf). a + length ws) (sym same)

pub counts-push : (a b : ℕ) (us vs : List WorkerOf) (w : WorkerOf) → b ≡ a + 1 → vs ≡ us ++ w ∷ [] → Counts a us b vs
counts-push a b us vs w more pushed = omega (arith, more, ap length pushed, length_push us w)

set-length : (ws : List WorkerOf) (k : ℕ) (w : WorkerOf) → length (slice_set ws k w) ≡ length ws
set-length [] k w = refl
set-length (v ∷ ws) zero w = refl
set-length (v ∷ ws) (suc k) w = ap suc (set-length ws k w)

pub counts-set : (a b : ℕ) (us vs ws : List WorkerOf) (k : ℕ) (w : WorkerOf) → Counts a us b vs → ws ≡ slice_set vs k w → Counts a us b ws
counts-set a b us vs ws k w h set = omega (arith, h, ap length set, set-length vs k w)

pub length-passes : (ws : List WorkerOf) → length (passes_in ws) ≡ length ws
length-passes [] = refl
length-passes (w ∷ ws) = ap suc (length-passes ws)
