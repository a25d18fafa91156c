use Rattle.std.proofs.Common.{◌≡◌, ℕ, ◌+◌, ◌++◌, ◌∷◌, [], List, take, ap, ◌∙◌, subst, sym}
use Rattle.std.proofs.lemmas.List.{take_more}
use Rattle.std.specs.Io.KnownBytes.{Appends}
use Rattle.std.proofs.KnownBytes.{Appends-trans}
use Rattle.machine.specs.declared.command.Reply.{Reply}
use Rattle.printer.specs.Prints.{texts}
use Rattle.printer.specs.SinkLaws.{texts-append}
use Rattle.thread_runs.proofs.threads.print_answers.Goals as goal

pub loop-reply-preserved : goal.loop-reply-preserved
loop-reply-preserved g c =
    let xs : List Reply = c.args.answers.now in
    let i = c.loop-reply.reply-index in
    let reply : Reply = c.reply-item.result in
    let more : take (i + 1) xs ≡ take i xs ++ reply ∷ [] = take_more xs i reply c.loop-reply-test.true ∙ ap (λ (r : Reply). take i xs ++ r ∷ []) (sym c.reply-item.is) in
    let bytes : texts (take (i + 1) xs) ≡ texts (take i xs) ++ texts (reply ∷ []) = ap (λ (rs : List Reply). texts rs) more ∙ texts-append (take i xs) (reply ∷ []) in
    subst (λ (bs : List ℕ). Appends (g.O.Write.contents c.args.out.now) (g.O.Write.contents c.print_answer.new.out) bs) (sym bytes)
    (Appends-trans _ _ _ (texts (take i xs)) (texts (reply ∷ [])) c.loop-reply.invariant c.in_ok-print_answer.ensures)
