use Rattle.std.proofs.Common.{◌≡◌, ◌∙◌, ap, sym}
use Rattle.machine.specs.declared.event.Event.{Event}
use Rattle.machine.specs.declared.reply.Reply.{Reply}
use Rattle.book.specs.declared.kept.Asked.{Asked}
use Rattle.book.specs.declared.kept.Asked.TheVariants.{Whole}
use Rattle.book.specs.declared.kept.Kept.TheVariants.{Call}
use Rattle.book_events.specs.Events.{reply_of}
use Rattle.book.specs.Passes.{PassOf, call_of, keeping, is_current}
use Rattle.book.proofs.PassLemmas.{asked-whole, asked-leaves, called-current, current-on}
use Rattle.book.proofs.book.Book.serve.Goals as goal

pub returns-in-Ok-clause-current : goal.returns-in-Ok-clause-current
returns-in-Ok-clause-current c =
    let pass = c.args.pass.now in
    let said = reply_of c.ask-reply.result in
    let kept : c.keep.new.self ≡ keeping pass (call_of c.args.event said) =
    c.keep.ensures
    ∙ ap (λ (a : Event). keeping pass (Call (Whole a) c.plain.result)) c.in-Ok.ensures.copied
    ∙ ap (λ (r : Reply). keeping pass (Call (Whole c.args.event) r)) c.plain.ensures
    ∙ ap (λ (a : Asked). keeping pass (Call a said)) (sym (asked-whole c.args.event c.requires.asked)) in
    let called = called-current c.args.self.now pass c.args.event said c.ask-reply.new.self (sym c.if-not-is_current.ensures) (rw c.worker.ensures at c.ask-reply.ensures.called) in
    ap (λ (p : PassOf). is_current c.ask-reply.new.self p) kept ∙ current-on c.args.self.now pass c.args.event (asked-leaves c.args.event c.requires.asked) c.ask-reply.new.self said called

pub returns-in-Ok-clause-called : goal.returns-in-Ok-clause-called
returns-in-Ok-clause-called c =
    called-current c.args.self.now c.args.pass.now c.args.event (reply_of c.ask-reply.result) c.ask-reply.new.self (sym c.if-not-is_current.ensures) (rw c.worker.ensures at c.ask-reply.ensures.called)
