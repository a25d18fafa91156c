-- What a caller asks of a run.
use Rattle.printer.specs.declared.options.Options.{Options}
use Rattle.printer.specs.Asked.{plain}
use Rattle.call_buffers.specs.Calls.{placement_of}
use Rattle.embedding.specs.declared.Asked.{Asked}

-- the program's options for a run. (Excludes an option that is ignored, and one that is taken for another.)
abbrev pub options_of : Asked → Options
options_of asked =
    record plain { explain = asked.explain; labels = asked.labels; placement = placement_of asked.as_linux; quiet = asked.quiet; strict = asked.strict; summary = asked.summary; turns = asked.turns }

-- for a chart, which has not all of them
abbrev pub chart_options_of : Asked → Options
chart_options_of asked = record plain { explain = asked.explain; placement = placement_of asked.as_linux; turns = asked.turns }
