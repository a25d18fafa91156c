use Rattle.std.proofs.Common.{rules, ◌≡◌, ◌∙◌, ◌<◌, ◌++◌, ◌∷◌, [], ℕ, List, map, arith, sym, ap, subst}
use Rattle.book_events.specs.Events.{event_of, reply_of}
use Rattle.book.specs.Passes.{PassOf, call_of, keeping}
use Rattle.live.specs.declared.history.Exchange.{Exchange}
use Rattle.live.specs.declared.history.Exchange.TheVariants.{Call}
use Rattle.live.specs.Exchanges.{kept_of}
use Rattle.live.specs.Passes.{PassOf as Shown, pass_of, answering}
use Rattle.live.specs.Told.{told_to, telling}
use Rattle.live.specs.Rules.{exchanges_in}
use Rattle.live.specs.Hands.{HasEvent}
use Rattle.live.specs.Shares.{is_strange, strange, one_if}
use Rattle.live.proofs.ShareLemmas.{one-more}
use Rattle.live.proofs.SharedLemmas.{new-asked, answered-so, seated-so, seated-own, whole-more, called-so}
use Rattle.live.proofs.HandLemmas.{hand-known, known-strange}
use Rattle.live.proofs.pass.Pass.ask.Goals as goal

pub returns-clause-log : goal.returns-clause-log
returns-clause-log g c =
    let old = c.self.inside.pass in
    let log = c.args.log.now in
    let what = event_of c.args.event in
    let said = reply_of c.call-reply.result in
    let now : c.call-reply.new.pass ≡ keeping old (call_of what said) = search rules in
    let known = exchanges_in c.self.inside.front.me.0.rows in
    let more = new-asked g.A.Asked.events known old c.call-reply.new.pass what said c.requires.asked c.self.invariant.2 now in
    let same : pass_of old known ≡ c.args.self.now = search rules in
    c.note.ensures.log
    ∙ (ap (λ (l : List Exchange). record log { log = telling c.call-reply.new.pass.caller.worker l log.log }) more
    ∙ (ap (λ (p : PassOf). record log { log = telling p.caller.worker (Call what said ∷ []) log.log }) now
    ∙ ap (λ (p : Shown). record log { log = telling p.caller.worker (Call what said ∷ []) log.log }) same))

pub returns-clause-answered : goal.returns-clause-answered
returns-clause-answered g c =
    let old = c.self.inside.pass in
    let what = event_of c.args.event in
    let said = reply_of c.call-reply.result in
    let now : c.call-reply.new.pass ≡ keeping old (call_of what said) = search rules in
    let known = exchanges_in c.self.inside.front.me.0.rows in
    let more = new-asked g.A.Asked.events known old c.call-reply.new.pass what said c.requires.asked c.self.invariant.2 now in
    let after = seated-so c.note.new.front.me c.call-reply.new.pass.caller.worker _ c.note.ensures.front.1 ∙ ap (λ (l : List Exchange). known ++ l) more in
    let same : pass_of old known ≡ c.args.self.now = search rules in
    answered-so old c.call-reply.new.pass what said known (exchanges_in c.note.new.front.me.0.rows) now after ∙ ap (λ (p : Shown). answering p what said) same

-- a ticket in hand is the worker's own, so no end is a stranger's
pub invariant_of-self : goal.invariant_of-self
invariant_of-self g c =
    let old = c.self.inside.pass in
    let log = c.args.log.now in
    let shared = c.requires.shared in
    let what = event_of c.args.event in
    let said = reply_of c.call-reply.result in
    let k = call_of what said in
    let now : c.call-reply.new.pass ≡ keeping old k = search rules in
    let worker = ap (λ (p : PassOf). p.caller.worker) now in
    let known = exchanges_in c.self.inside.front.me.0.rows in
    let told : known ≡ told_to old.caller.worker log.log = c.note.ensures.known ∙ ap (λ (n : ℕ). told_to n log.log) worker in
    let given : old.caller.worker < log.given = subst (λ (n : ℕ). n < log.given) worker c.note.ensures.given in
    let same : pass_of old known ≡ c.args.self.now = search rules in
    let hand : HasEvent known c.args.event = subst (λ (p : Shown). HasEvent p.exchanges c.args.event) (sym same) c.requires.hand in
    let called = called-so g.L.Opened.table g.L.Opened.opening c.args.book.now log shared old known c.self.invariant.2 told given what said c.call-reply.new.self c.call-reply.ensures.called in
    let knows = hand-known c.args.book.now old.caller c.args.event known log.log told shared.hands hand in
    let none = known-strange c.args.book.now c.call-reply.new.self old.caller c.args.event said knows called in
    let kept : c.call-reply.new.pass.kept ≡ old.kept ++ k ∷ [] = ap (λ (p : PassOf). p.kept) now in
    let one = ap strange kept ∙ one-more is_strange old.kept k in
    let more = new-asked g.A.Asked.events known old c.call-reply.new.pass what said c.requires.asked c.self.invariant.2 now in
    let after = seated-so c.note.new.front.me c.call-reply.new.pass.caller.worker _ c.note.ensures.front.1 ∙ ap (λ (l : List Exchange). known ++ l) more in (
      c.note.ensures.front.0 ∙ c.requires.of_these,
      seated-own c.note.new.front.me c.call-reply.new.pass.caller.worker _ c.note.ensures.front.1,
      ap (map kept_of) after ∙ (whole-more known (Call what said ∷ []) old.kept c.self.invariant.2 ∙ sym kept),
      omega (arith, one, c.self.invariant.3, ap one_if none),
    )
