use Rattle.std.proofs.Common.{Option, ap, ◌∙◌}
use Rattle.std.specs.Prelude.{option_map}
use Rattle.machine.specs.State.{State}
use Rattle.book.specs.declared.looks.GroupLook.{GroupLook}
use Rattle.legal.proofs.SoundLemmas.{legal-files}
use Rattle.charts.proofs.OpenedLemmas.{stat-looked}
use Rattle.charts.proofs.watching.stat_of.Goals as goal

pub returns : goal.returns
returns c = λ opened.
    let s : State = c.args.book.now.state in
    c.stat_without_files.ensures
    ∙ ap (λ (look : Option GroupLook). option_map (λ (g : GroupLook). record { anon = g.usage; file = 0 }) look) c.requires
    ∙ stat-looked s (legal-files s.opening c.args.book.now.history s c.history_is_right.ensures.legal) (opened.files c.if-sizes.false) c.args.path.now
