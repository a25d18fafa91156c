use Rattle.std.proofs.Common.{ℕ, List, map, ◌++◌, ap, sym, ◌∙◌}
use denote.Ref.{Bor}
use Rattle.machine.specs.declared.config.File.{File}
use Rattle.machine.specs.State.{sizes_of, opening_of}
use Rattle.charts.specs.declared.watching.Row.{Row}
use Rattle.charts.specs.declared.watching.Sizes.{Sizes}
use Rattle.charts.specs.Watched.{seen_at, expanded}
use Rattle.charts.proofs.OpenedLemmas.{Fits, runs-opened}
use Rattle.charts.proofs.watching.watch.Goals as goal

pub returns-clause-watched : goal.returns-clause-watched
returns-clause-watched g c =
    let gives = c.in-Ok.ensures.gives.gives in
    let sizes : Sizes = c.of-sizes.result in
    let fits : Fits sizes (opening_of c.args.config) = (sym c.of-sizes.ensures.frames, sym c.of-sizes.ensures.swap, λ none. ap (λ (fs : List File). sizes_of fs) (c.of-sizes.ensures.files none)) in
    let opened = runs-opened sizes c.args.config (g.D.BlockDevice.disk c.args.device.now) gives.schedules.end _ gives.answers gives.pasts fits gives.shown in
    record {
      answers = gives.answers;
      after = g.D.BlockDevice.disk c.run_into-ran.new.device;
      schedules = gives.schedules;
      pasts = gives.pasts;
      runs = gives.shown;
      rows_are = gives.sees.rows c.if-is_lost.false opened ∙ ap (λ (rows : List Row). expanded rows ++ map (seen_at c.args.is_detailed (map (λ (p : Bor (List ℕ)). p.now) c.args.paths.now)) gives.pasts) c.new.ensures.items;
    }
