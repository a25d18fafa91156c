use Rattle.std.proofs.Common.{◌∙◌, ap, map}
use Rattle.std.specs.Prelude.{slice_set}
use Rattle.std.proofs.lemmas.List.{map-set}
use Rattle.machine.specs.Order.{Cursor}
use Rattle.reclaim.specs.Cursors.{cursor_of}
use Rattle.reclaim.proofs.cursors.Cursors.remove.Goals as goal

pub returns-clause-cursors : goal.returns-clause-cursors
returns-clause-cursors c =
    rw (← c.self.view_is)
    (map-set cursor_of c.self.inside.turns.items c.args.group.0 c.new.result ∙ ap (λ (to : Cursor). slice_set (map cursor_of c.self.inside.turns.items) c.args.group.0 to) c.new.ensures)
