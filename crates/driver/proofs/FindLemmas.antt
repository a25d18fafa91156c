-- What a call by a pass that is current is, and what looking for paths leaves of a pass.
use Rattle.std.specs.Prelude.{MatchBool}
use Rattle.std.proofs.Common.{◌≡◌, Bool, true, false, ℕ, ◌+◌, ◌≤◌, List, [], ◌∷◌, length, refl, ◌∙◌, ap, arith}
use Rattle.machine.specs.declared.command.Actor.{Actor}
use Rattle.machine.specs.declared.command.Actor.TheVariants as actor
use Rattle.machine.specs.declared.command.Command.{Command}
use Rattle.machine.specs.declared.command.Command.TheVariants as command
use Rattle.machine.specs.Tree.{Node, find_group}
use Rattle.machine.specs.declared.event.Event.{Event}
use Rattle.machine.specs.declared.reply.Reply.{Reply}
use Rattle.machine.specs.declared.refusal.Refusal.TheVariants.{Stranger}
use Rattle.machine.specs.Call.{Past, Refuses, Called}
use Rattle.book.specs.Passes.{PassOf, find_of, keeping, is_current, may_ask, CalledWith}
use Rattle.book.proofs.PassLemmas.{find-on, may_ask-current}
use Rattle.turns.specs.Turns.{shell_paths, paths_of}
use Rattle.judging.specs.Finds.{looking}

-- it is one by the pass's worker
pub called-by : (old : Past) (pass : PassOf) (what : Event) (answer : Reply) (new : Past) → is_current old pass ≡ true → CalledWith old pass what answer new → Called old pass.caller what answer new
called-by old pass what answer new is h = by_pass (may_ask old pass what) (may_ask-current old pass what is) h
  where
    by_pass : (b : Bool) → b ≡ true → MatchBool b (Called old pass.caller what answer new) (Refuses old Stranger answer new) → Called old pass.caller what answer new
    by_pass true e k = k
    by_pass false e k = cc

-- its worker is who it was, it is current if it was, and each path took room for one
pub record Looked (past : Past) (pass pass' : PassOf) (paths : ℕ) : Type 0 where
  pub caller : pass'.caller ≡ pass.caller
  pub current : is_current past pass' ≡ is_current past pass
  pub room : pass.room ≤ pass'.room + paths

looked-for : (past : Past) (tree : List Node) (paths : List (List ℕ)) (pass : PassOf) → Looked past pass (looking tree paths pass) (length paths)
looked-for past tree [] pass = record { caller = refl; current = refl; room = omega arith }
looked-for past tree (path ∷ paths) pass =
    let rest = looked-for past tree paths (keeping pass (find_of path (find_group tree path))) in
    let room = rest.room in
    record { caller = rest.caller; current = rest.current ∙ find-on past pass path (find_group tree path); room = omega (arith, room) }

few-shell : (what : Command) → length (shell_paths what) ≤ 2
few-shell (command.Rmdir path) = omega arith
few-shell (command.Task t path) = omega arith
few-shell (command.Attach t path) = omega arith
few-shell (command.Set path name text) = omega arith
few-shell (command.Cat path name) = omega arith
few-shell (command.Protection guard target path) = omega arith
few-shell others = omega arith

-- a command has two paths at most
few-paths : (who : Actor) (what : Command) → length (paths_of who what) ≤ 2
few-paths (actor.Task t) what = omega arith
few-paths actor.Shell what = few-shell what
few-paths actor.Control what = few-shell what
few-paths actor.Daemon what = omega arith

pub looked-up : (past : Past) (who : Actor) (what : Command) (pass pass' : PassOf) → pass' ≡ looking past.state.tree (paths_of who what) pass → Looked past pass pass' 2
looked-up past who what pass pass' is =
    let found = looked-for past past.state.tree (paths_of who what) pass in
    let room = found.room in
    let few = few-paths who what in
    let same = ap (λ (p : PassOf). p.room) is in
    record {
      caller = ap (λ (p : PassOf). p.caller) is ∙ found.caller;
      current = ap (is_current past) is ∙ found.current;
      room = omega (arith, room, few, same);
    }
