-- Parts of memory and of files, and names with numbers.
use Rattle.std.specs.Prelude.{ℕ, ◌+◌, ◌^◌, Bool, ◌&&◌, ◌==◌, List, [], ◌∷◌, length, take, drop, codes, Option, Some, None, Result, Ok, Err, nat_lt, nat_le, slice_index, if◌then◌else◌}
use Rattle.std.specs.List.{position_or_len, before_first, after_first}
use Rattle.std.specs.Option.{option_map}
use Rattle.std.specs.Str.{bytes_eq}
use denote.Ref.{Bor}
use Rattle.machine.specs.Numbers.{number_below}
use Rattle.scenarios.specs.declared.parts.Part.{Part}
use Rattle.scenarios.specs.declared.parts.Which.{Which}
use Rattle.scenarios.specs.declared.parts.Which.TheVariants as which
use Rattle.scenarios.specs.declared.sizes.Size.{Size}
use Rattle.scenarios.specs.declared.sizes.SizeFault.{SizeFault}
use Rattle.scenarios.specs.Sizes.{size_of, last_byte, without_last}

-- the place of the first `..` in bytes whose first one has this place
abbrev pub dots_from : ℕ → List ℕ → Option ℕ
dots_from place [] = None
dots_from place (b ∷ bs) = if b == 46 && slice_index bs 0 == 46 then Some place else dots_from (place + 1) bs

-- the text before the first `..`, and the text after it
abbrev pub halves : List ℕ → Option (List ℕ × List ℕ)
halves word = option_map (λ at. (take at word, drop (at + 2) word)) (dots_from 0 word)

-- from one size to before another, or what is wrong with the first that is none
abbrev pub between : Result Size SizeFault → Result Size SizeFault → Result Part SizeFault
between (Err e) to = Err e
between (Ok from) (Err e) = Err e
between (Ok from) (Ok to) = Ok (record { from = from; to = to })

-- the part that a word writes, if it has two points
abbrev pub part_of : List ℕ → Option (Result Part SizeFault)
part_of word = option_map (λ h. between (size_of h.0) (size_of h.1)) (halves word)

abbrev pub number_of : List ℕ → Option ℕ
number_of word = number_below (2 ^ 32) word

abbrev pub range_of : Option ℕ → Option ℕ → Option Which
range_of None last = None
range_of (Some first) None = None
range_of (Some first) (Some last) = if nat_le first last then Some (which.Range first last) else None

-- the numbers in brackets: `*`, one, or two with two points between
abbrev pub numbers_at : Option (List ℕ × List ℕ) → List ℕ → Option Which
numbers_at None inner = option_map which.At (number_of inner)
numbers_at (Some h) inner = range_of (number_of h.0) (number_of h.1)

abbrev pub which_of : List ℕ → Option Which
which_of inner = if bytes_eq inner (codes "*") then Some which.All else numbers_at (halves inner) inner

abbrev pub is_bracket : ℕ → Bool
is_bracket b = b == 91

-- a name, and what follows its bracket
abbrev pub bracketed : List ℕ → List ℕ → Option (List ℕ × Which)
bracketed name rest = if nat_lt 0 (length name) && last_byte rest == 93 then named name (which_of (without_last rest)) else None
  where
    named : List ℕ → Option Which → Option (List ℕ × Which)
    named n None = None
    named n (Some w) = Some (n, w)

-- the name of a word, and which of those of this name are meant
abbrev pub names_of : List ℕ → Option (List ℕ × Which)
names_of word = if nat_lt (position_or_len is_bracket word) (length word) then bracketed (before_first is_bracket word) (after_first is_bracket word) else Some (word, which.Plain)

-- what references point to
abbrev pub texts : Bor (List ℕ) × Bor (List ℕ) → List ℕ × List ℕ
texts p = (p.0.now, p.1.now)

abbrev pub name_text : Bor (List ℕ) × Which → List ℕ × Which
name_text p = (p.0.now, p.1)
