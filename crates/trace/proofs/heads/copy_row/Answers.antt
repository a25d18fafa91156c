use Rattle.std.proofs.Common.{◌<◌, ◌∙◌, length}
use Rattle.trace.proofs.TableLemmas.{row-copied}
use Rattle.trace.proofs.heads.copy_row.Goals as goal

pub returns : goal.returns
returns c =
    let lt : c.args.to < length c.args.rows.now = c.if-to-rows.false in
    row-copied c.args.rows.now c.args.to c.args.from c.replace-row.new.dest c.row_by-copied.result lt (c.replace-row.ensures.after ∙ c.empty.ensures) c.row_by-copied.ensures
