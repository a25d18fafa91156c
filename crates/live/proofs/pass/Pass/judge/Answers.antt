use Rattle.std.proofs.Common.{rules, ℕ, List, ◌≡◌, ◌∙◌, ◌++◌, map, sym, ap, subst}
use Rattle.machine.specs.Call.{Caller}
use Rattle.machine.specs.Tree.{find_group}
use Rattle.book.specs.Passes.{PassOf}
use Rattle.turns.specs.Turns.{paths_of}
use Rattle.live.specs.declared.history.Exchange.{Exchange}
use Rattle.live.specs.Exchanges.{kept_of}
use Rattle.live.specs.Passes.{PassOf as Shown, pass_of}
use Rattle.live.specs.Runs.{Looked}
use Rattle.live.specs.Shares.{Carries}
use Rattle.live.specs.Told.{telling}
use Rattle.live.specs.Rules.{exchanges_in}
use Rattle.live.specs.Shared.{found_in}
use Rattle.live.proofs.RowLemmas.{looked, looking-kept, looking-caller}
use Rattle.live.proofs.ShareLemmas.{carries-looked, looked-strange}
use Rattle.live.proofs.SharedLemmas.{new-looked, seated-so, seated-own, whole-more}
use Rattle.live.proofs.pass.Pass.judge.Goals as goal

pub returns-clause-looked : goal.returns-clause-looked
returns-clause-looked g c =
    let tree = c.args.book.now.state.tree in
    let paths = paths_of c.args.actor c.args.command.now in
    let old = c.self.inside.pass in
    let known = exchanges_in c.self.inside.front.me.0.rows in
    let kept = ap (λ (p : PassOf). p.kept) c.in_ok-judged.ensures.looked ∙ looking-kept tree paths old in
    let more = new-looked known old.kept c.judge.new.pass.kept tree paths c.self.invariant.2 kept in
    let after = seated-so c.note.new.front.me c.judge.new.pass.caller.worker _ c.note.ensures.front.1 ∙ ap (λ (l : List Exchange). known ++ l) more in
    let same : pass_of old known ≡ c.args.self.now = search rules in
    subst (λ (p : Shown). Looked c.args.book.now.state.opening c.args.actor c.args.command.now p.exchanges (exchanges_in c.note.new.front.me.0.rows) c.in_ok-judged.judged) same
    (looked c.args.book.now.state.opening tree c.args.actor c.args.command.now known (exchanges_in c.note.new.front.me.0.rows) c.in_ok-judged.judged after c.in_ok-judged.ensures.judged)

pub returns-clause-share : goal.returns-clause-share
returns-clause-share g c =
    let tree = c.args.book.now.state.tree in
    let paths = paths_of c.args.actor c.args.command.now in
    let old = c.self.inside.pass in
    let same : pass_of old (exchanges_in c.self.inside.front.me.0.rows) ≡ c.args.self.now = search rules in
    subst (λ (p : Shown). Carries p.kept 0 c.judge.new.pass.kept 0) same
    (carries-looked paths (map (find_group tree) paths) old.kept c.judge.new.pass.kept (ap (λ (p : PassOf). p.kept) c.in_ok-judged.ensures.looked ∙ looking-kept tree paths old))

pub returns-clause-caller : goal.returns-clause-caller
returns-clause-caller g c =
    let tree = c.args.book.now.state.tree in
    let paths = paths_of c.args.actor c.args.command.now in
    let same : pass_of c.self.inside.pass (exchanges_in c.self.inside.front.me.0.rows) ≡ c.args.self.now = search rules in
    ap (λ (p : PassOf). p.caller) c.in_ok-judged.ensures.looked ∙ (looking-caller tree paths c.self.inside.pass ∙ ap (λ (p : Shown). p.caller) same)

pub returns-clause-log : goal.returns-clause-log
returns-clause-log g c =
    let tree = c.args.book.now.state.tree in
    let paths = paths_of c.args.actor c.args.command.now in
    let old = c.self.inside.pass in
    let log = c.args.log.now in
    let known = exchanges_in c.self.inside.front.me.0.rows in
    let kept = ap (λ (p : PassOf). p.kept) c.in_ok-judged.ensures.looked ∙ looking-kept tree paths old in
    let same : pass_of old known ≡ c.args.self.now = search rules in
    let worker = ap (λ (p : PassOf). p.caller.worker) c.in_ok-judged.ensures.looked ∙ (ap (λ (c : Caller). c.worker) (looking-caller tree paths old) ∙ ap (λ (p : Shown). p.caller.worker) same) in
    let more = new-looked known old.kept c.judge.new.pass.kept tree paths c.self.invariant.2 kept in
    c.note.ensures.log
    ∙ (ap (λ (l : List Exchange). record log { log = telling c.judge.new.pass.caller.worker l log.log }) more
    ∙ ap (λ (n : ℕ). record log { log = telling n (found_in tree paths) log.log }) worker)

pub invariant_of-self-2 : goal.invariant_of-self-2
invariant_of-self-2 g c =
    let tree = c.args.book.now.state.tree in
    let paths = paths_of c.args.actor c.args.command.now in
    let old = c.self.inside.pass in
    let known = exchanges_in c.self.inside.front.me.0.rows in
    let kept = ap (λ (p : PassOf). p.kept) c.in_ok-judged.ensures.looked ∙ looking-kept tree paths old in
    let more = new-looked known old.kept c.judge.new.pass.kept tree paths c.self.invariant.2 kept in
    let after = seated-so c.note.new.front.me c.judge.new.pass.caller.worker _ c.note.ensures.front.1 ∙ ap (λ (l : List Exchange). known ++ l) more in (
      c.note.ensures.front.0 ∙ c.requires.of_these,
      seated-own c.note.new.front.me c.judge.new.pass.caller.worker _ c.note.ensures.front.1,
      ap (map kept_of) after ∙ (whole-more known (found_in tree paths) old.kept c.self.invariant.2 ∙ sym kept),
      looked-strange paths (map (find_group tree) paths) old.kept c.judge.new.pass.kept kept c.self.invariant.3,
    )
