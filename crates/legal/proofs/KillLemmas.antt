-- Where a relief is answered by a kill, the step is that of a kill.
use Rattle.std.proofs.Common.{◌≡◌, ℕ, Bool, true, false, List, refl, ap}
use Rattle.std.specs.Prelude.{MatchBool}
use Rattle.machine.specs.declared.record.EventCounts.{EventCounts}
use Rattle.machine.specs.declared.event.Cause.{Cause}
use Rattle.machine.specs.declared.reply.Reply.{Reply}
use Rattle.machine.specs.declared.reply.Reply.TheVariants as reply
use Rattle.machine.specs.Pages.{Content, Memory, OfFile, Residence, Held, Coming, Going, Away, Page, home_block}
use Rattle.machine.specs.State.{State}
use Rattle.machine.specs.Reclaim.{has_takeable, has_transfer, stands, target_of}
use Rattle.machine.specs.Step.{Only, StartsLeave, Drops, LeavesBy, LeavesFrom, Takes, ReclaimStep, KillStep, RelieveStep}
use Rattle.machine.proofs.Values.{unlike}

-- it says that a page was taken
abbrev pub is_taking : Reply → Bool
is_taking (reply.Out ticket) = true
is_taking reply.Dropped = true
is_taking answer = false

taking_by : (old new : State) (p frame : ℕ) (page : Page) (content : Content) (counted : List EventCounts) (answer : Reply) → LeavesBy old p page content frame counted answer new → is_taking answer ≡ true
taking_by old new p frame page Memory counted answer h = ap is_taking h.leave.answers
taking_by old new p frame page (OfFile file q) counted answer h = by_dirty page.dirty h
  where
    by_dirty : (b : Bool) → MatchBool b (StartsLeave old p page frame (home_block old.opening.swap old.opening.files file q) counted answer new) (Drops old p counted answer new) → is_taking answer ≡ true
    by_dirty true k = ap is_taking k.answers
    by_dirty false k = ap is_taking k.answers

taking_from : (old new : State) (p : ℕ) (page : Page) (residence : Residence) (counted : List EventCounts) (answer : Reply) → LeavesFrom old p page residence counted answer new → is_taking answer ≡ true
taking_from old new p page (Held frame) counted answer h = taking_by old new p frame page page.content counted answer h
taking_from old new p page (Coming frame block ticket) counted answer h = absurd h
taking_from old new p page (Going frame block ticket) counted answer h = absurd h
taking_from old new p page (Away block) counted answer h = absurd h

never_taken : (old : State) (target : ℕ) (answer : Reply) (new : State) → is_taking answer ≡ false → Takes old target answer new → ⊥
never_taken old target answer new other h = unlike (is_taking answer) (taking_from old new h.p h.page h.page.residence _ answer h.leaves) other

-- where a relief is answered so, nobody gave a page
module _ (old new : State) (why : Cause) (answer : Reply) (other : is_taking answer ≡ false) (not_room : answer ≡ reply.Room → ⊥) (not_wait : answer ≡ reply.Wait → ⊥) where
  by_test : {P Q R : Type 0} (b : Bool) → (P → R) → (Q → R) → MatchBool b P Q → R
  by_test true f g h = f h
  by_test false f g h = g h

  pub relieves_killing : RelieveStep old why answer new → (stands old why ≡ true) × KillStep old (target_of why) answer new
  relieves_killing h = by_cause (stands old why) refl h
    where
      wanted : ReclaimStep old (target_of why) (KillStep old (target_of why) answer new) answer new → KillStep old (target_of why) answer new
      wanted h = by_test (has_takeable old (target_of why)) (λ (k : Takes old (target_of why) answer new). absurd (never_taken old (target_of why) answer new other k)) (by_test (has_transfer old (target_of why)) (λ w. absurd (not_wait w.0)) (λ k. k)) h

      by_cause : (b : Bool) → stands old why ≡ b
          → MatchBool b (ReclaimStep old (target_of why) (KillStep old (target_of why) answer new) answer new) (Only old reply.Room answer new) → (stands old why ≡ true) × KillStep old (target_of why) answer new
      by_cause true is h = (is, wanted h)
      by_cause false is h = absurd (not_room h.0)
