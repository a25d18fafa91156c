-- What a contract sees of a row: what is known of the pages of one task, or of one file. No public clause cites these.
use Rattle.std.specs.Prelude.{ℕ, List, [], slice_index_or}
use Rattle.trace.specs.declared.link.Link.{Link}
use Rattle.trace.specs.declared.link.Link.TheVariants as link

pub record RowOf : Type 0 where
  -- by page
  pub links : List Link
  -- of each page behind these
  pub rest : Link

-- what is known of a page
abbrev pub at_row : RowOf → ℕ → Link
at_row row c = slice_index_or row.links c row.rest

-- nothing is known of any
abbrev pub empty_row : RowOf
empty_row = record { links = []; rest = link.Unknown }
