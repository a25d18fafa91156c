-- No call of the book changes what its opening fixed, and none but a mkdir or an rmdir changes which groups there are.
use Rattle.std.proofs.Common.{◌≡◌, Bool, true, false, List, [], ◌∷◌, ◌++◌, Option, Some, None, refl, ap}
use Rattle.std.specs.Prelude.{MatchBool}
use Rattle.machine.specs.declared.event.Event.{Event}
use Rattle.machine.specs.declared.event.Event.TheVariants as event
use Rattle.machine.specs.declared.reply.Reply.{Reply}
use Rattle.machine.specs.declared.reply.Reply.TheVariants as reply
use Rattle.machine.specs.declared.refusal.Refusal.{Refusal}
use Rattle.machine.specs.declared.refusal.Refusal.TheVariants.{Stranger, TraceFull}
use Rattle.machine.specs.Tree.{Node, without_group}
use Rattle.machine.specs.State.{State}
use Rattle.machine.specs.Refusals.{refusal}
use Rattle.machine.specs.Step.{new_node, Step}
use Rattle.machine.proofs.Values.{unlike}
use Rattle.legal.proofs.Did.{changes_groups, Did, Kept, Made, Moved, Cached, Dropped, Ended, Spawned, Forked, Freed, Attached, Removed, Grown, step_did}
use Rattle.machine.specs.Call.{Past, Caller, Refuses, Answered, JudgedBy, Called, knows_pass, is_trace_full}

-- the groups after an event that nothing refuses
abbrev pub tree_after : State → Event → List Node
tree_after old (event.Mkdir path) = old.tree ++ new_node old.tree path ∷ []
tree_after old (event.Rmdir g) = without_group old.tree g.0
tree_after old what = old.tree

-- a step leaves what its opening fixed
pub step_opening : (old : State) (what : Event) (answer : Reply) (new : State) → Step old what answer new → new.opening ≡ old.opening
step_opening old what answer new step = by_case (step_did old new what answer step)
  where
    by_case : Did old what answer new → new.opening ≡ old.opening
    by_case (Kept limits flags counted e) = ap (λ (s : State). s.opening) e
    by_case (Made t v p frame access out alive shared within free unused placed shown e) = ap (λ (s : State). s.opening) e
    by_case (Moved p page to dirty now counted there whose placed moves mapped e) = ap (λ (s : State). s.opening) e
    by_case (Cached t f q p frame ticket access out alive unread within free unused fresh filed placed e) = ap (λ (s : State). s.opening) e
    by_case (Dropped p page counted out there may_go went gone e) = ap (λ (s : State). s.opening) e
    by_case (Ended is_gone ending counted out dead ends) = ap (λ (s : State). s.opening) ends.state
    by_case (Spawned t g is sets shown e) = ap (λ (s : State). s.opening) e
    by_case (Forked t child is out alive sets copies e) = ap (λ (s : State). s.opening) e
    by_case (Freed t v is out alive frees) = ap (λ (s : State). s.opening) frees.state
    by_case (Attached t g is out sets e) = ap (λ (s : State). s.opening) e
    by_case (Removed g is out removes) = ap (λ (s : State). s.opening) removes.state
    by_case (Grown path is out e) = ap (λ (s : State). s.opening) e

same_tree : (old new : State) (what : Event) (answer : Reply) → changes_groups what ≡ false → Did old what answer new → new.tree ≡ old.tree
same_tree old new what answer other (Kept limits flags counted e) = ap (λ (s : State). s.tree) e
same_tree old new what answer other (Made t v p frame access out alive shared within free unused placed shown e) = ap (λ (s : State). s.tree) e
same_tree old new what answer other (Moved p page to dirty now counted there whose placed moves mapped e) = ap (λ (s : State). s.tree) e
same_tree old new what answer other (Cached t f q p frame ticket access out alive unread within free unused fresh filed placed e) = ap (λ (s : State). s.tree) e
same_tree old new what answer other (Dropped p page counted out there may_go went gone e) = ap (λ (s : State). s.tree) e
same_tree old new what answer other (Ended is_gone ending counted out dead ends) = ap (λ (s : State). s.tree) ends.state
same_tree old new what answer other (Spawned t g is sets shown e) = ap (λ (s : State). s.tree) e
same_tree old new what answer other (Forked t child is out alive sets copies e) = ap (λ (s : State). s.tree) e
same_tree old new what answer other (Freed t v is out alive frees) = ap (λ (s : State). s.tree) frees.state
same_tree old new what answer other (Attached t g is out sets e) = ap (λ (s : State). s.tree) e
same_tree old new what answer other (Removed g is out removes) = unlike (changes_groups what) (ap changes_groups is) other
same_tree old new what answer other (Grown path is out e) = unlike (changes_groups what) (ap changes_groups is) other

pub step_tree : (old : State) (what : Event) (answer : Reply) (new : State) → Step old what answer new → new.tree ≡ tree_after old what
step_tree old (event.Mkdir path) reply.Ok new h = ap (λ (s : State). s.tree) h
step_tree old (event.Mkdir path) answer new h = absurd h
step_tree old (event.Rmdir g) reply.Ok new h = ap (λ (s : State). s.tree) h.state
step_tree old (event.Rmdir g) answer new h = absurd h
step_tree old what answer new h = same_tree old new what answer refl (step_did old new what answer h)

module _ (old new : Past) (caller : Caller) (what : Event) (answer : Reply) where
  refused : (why : Refusal) → Refuses old why answer new → new.state.opening ≡ old.state.opening
  refused why h = ap (λ (p : Past). p.state.opening) h.1

pub served : (old new : Past) (caller : Caller) (what : Event) (answer : Reply) → Answered old caller what answer new → new.state.opening ≡ old.state.opening
served old new caller what (reply.Refused why) h = ap (λ (p : Past). p.state.opening) h.2
served old new caller what answer h = step_opening old.state what answer new.state h.steps

pub called_opening : (old new : Past) (caller : Caller) (what : Event) (answer : Reply) → Called old caller what answer new → new.state.opening ≡ old.state.opening
called_opening old new caller what answer called = known (knows_pass old.state old.history caller what) called
  where
    by_room : (full : Bool) → MatchBool full (Refuses old TraceFull answer new) (Answered old caller what answer new) → new.state.opening ≡ old.state.opening
    by_room true h = refused old new caller what answer TraceFull h
    by_room false h = served old new caller what answer h

    by_cause : (cause : Option Refusal) → JudgedBy old caller what cause answer new → new.state.opening ≡ old.state.opening
    by_cause (Some why) h = refused old new caller what answer why h
    by_cause None h = by_room (is_trace_full old what) h

    known : (knows : Bool) → MatchBool knows (JudgedBy old caller what (refusal old.state what) answer new) (Refuses old Stranger answer new) → new.state.opening ≡ old.state.opening
    known true h = by_cause (refusal old.state what) h
    known false h = refused old new caller what answer Stranger h
