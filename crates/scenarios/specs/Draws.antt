-- Numbers that are drawn: splitmix64, by index.
use Rattle.std.specs.Prelude.{ℕ, ◌+◌, ◌-◌, ◌*◌, ◌/◌, ◌%◌, ◌^◌, bit_xor}

-- a number with the bits of itself that many places to the right added to it
abbrev pub folded : ℕ → ℕ → ℕ
folded places z = bit_xor z (z / 2 ^ places)

-- a product of 64 bits
abbrev pub times : ℕ → ℕ → ℕ
times a b = (a * b) % 2 ^ 64

-- the number of this index that splitmix64 gives from this seed
abbrev pub number_at : ℕ → ℕ → ℕ
number_at seed index =
    let z = (seed + times index 0x9E3779B97F4A7C15) % 2 ^ 64 in
    folded 31 (times (folded 27 (times (folded 30 z) 0xBF58476D1CE4E5B9)) 0x94D049BB133111EB)

-- the page that is drawn from those of a part, by the upper half of that number
abbrev pub drawn_page : ℕ → ℕ → ℕ → ℕ → ℕ
drawn_page seed index from to = from + ((number_at seed index / 2 ^ 32) * (to - from)) / 2 ^ 32
