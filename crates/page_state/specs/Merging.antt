-- How marks that come by frame are merged, place by place of their word. No public clause cites it.
use Rattle.std.specs.Prelude.{ℕ, ◌%◌, ◌==◌, ◌&&◌, nat_lt, Bool, false}
use Rattle.machine.specs.Pages.{Residence, Held, Page}
use Rattle.machine.specs.Lists.{has_bit}

-- a page is held in a frame whose bit is set, and is the one at this place of its word
abbrev pub has_place : ℕ → ℕ → ℕ → Residence → Bool
has_place word bits place (Held frame) = has_bit word bits frame && (frame % 64 == place)
has_place word bits place residence = false

abbrev pub is_at_place : ℕ → ℕ → ℕ → Page → Bool
is_at_place word bits place page = has_place word bits place page.residence

-- the same of the places below this one
abbrev pub has_place_below : ℕ → ℕ → ℕ → Residence → Bool
has_place_below word bits places (Held frame) = has_bit word bits frame && nat_lt (frame % 64) places
has_place_below word bits places residence = false

abbrev pub is_below_place : ℕ → ℕ → ℕ → Page → Bool
is_below_place word bits places page = has_place_below word bits places page.residence
