use Rattle.shown_groups.proofs.LookLemmas.{files-written}
use Rattle.shown_groups.proofs.shown.write_files.Goals as goal

pub returns : goal.returns
returns g c =
    files-written c.args.page_size.bytes c.args.path.now c.args.look c.with_files-look.result c.current_in.result c.stat_in.result c.events_in.result _ _ _ _ c.with_files-look.ensures c.current_in.ensures c.stat_in.ensures c.events_in.ensures
    c.in_ok-write_file.ensures c.in_ok-write_file-2.ensures c.in_ok-write_file-3.ensures
