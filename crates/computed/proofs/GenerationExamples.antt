-- Examples: generation lists as they change, an aging, and the page that is evicted next.
use Rattle.std.proofs.Common.{◌≡◌, ℕ, zero, suc, ◌<◌, true, false, List, [], ◌∷◌, Some, None, refl, arith}
use Rattle.machine.specs.declared.record.Kind.TheVariants.{Anon, File}
use Rattle.machine.specs.Generations.{Listed, Row, Gens, new_gens, entered, without, after_in, added, isolated, merged}
use Rattle.machine.specs.Aging.{Seen, aged}
use Rattle.machine.specs.Eviction.{old_pages, passed_by, settled, aged_times, Picks}

-- page p, of the generation with this number
abbrev at : ℕ → ℕ → Listed
at p seq = record { page = p; seq = seq }

abbrev row : ℕ → List Listed → Row
row min_seq pages = record { min_seq = min_seq; pages = pages }

abbrev lists : ℕ → Row → Row → Gens
lists max_seq anon file = record { max_seq = max_seq; anon = anon; file = file }

-- ---- changes of a row

-- page 4 stands behind page 2 of its generation, and before page 3 of a younger one
enters : entered 4 1 (at 1 0 ∷ at 2 1 ∷ at 3 2 ∷ []) ≡ at 1 0 ∷ at 2 1 ∷ at 4 1 ∷ at 3 2 ∷ []
enters = refl

-- page 2 leaves
leaves : without 2 (at 1 0 ∷ at 2 1 ∷ at 3 2 ∷ []) ≡ at 1 0 ∷ at 3 2 ∷ []
leaves = refl

-- the page behind page 1 is of a younger generation
behind : after_in 1 (at 1 0 ∷ at 2 1 ∷ at 3 2 ∷ []) ≡ Some 2
behind = refl

-- behind the last there is none
behind-last : after_in 3 (at 1 0 ∷ at 2 1 ∷ at 3 2 ∷ []) ≡ None
behind-last = refl

-- pages 1 and 2 of generation 0 stand in front of page 3 of generation 1
merges : merged (row 0 (at 1 0 ∷ at 2 0 ∷ at 3 1 ∷ at 4 2 ∷ [])) ≡ row 1 (at 1 1 ∷ at 2 1 ∷ at 3 1 ∷ at 4 2 ∷ [])
merges = refl

-- a new group's youngest generation is 3, and a page enters it
adds : added 1 File 3 new_gens ≡ lists 3 (row 0 []) (row 0 (at 1 3 ∷ []))
adds = refl

isolates : isolated 1 (lists 3 (row 0 (at 2 3 ∷ [])) (row 0 (at 1 3 ∷ []))) ≡ lists 3 (row 0 (at 2 3 ∷ [])) (row 0 [])
isolates = refl

-- ---- aging

-- pages 2 and 5 are marked, and page 5 is of another group. Generation 0 becomes part of 1, page 2 goes to 4, and page 5 keeps its mark
ages : aged (record { gens = lists 3 (row 0 (at 1 0 ∷ at 2 1 ∷ at 3 2 ∷ [])) (row 0 []); marks = false ∷ false ∷ true ∷ false ∷ false ∷ true ∷ [] })
    ≡ record { gens = lists 4 (row 1 (at 1 1 ∷ at 3 2 ∷ at 2 4 ∷ [])) (row 1 []); marks = false ∷ false ∷ false ∷ false ∷ false ∷ true ∷ [] }
ages = refl

-- three generations stay apart: nothing is merged
ages-three : aged (record { gens = lists 3 (row 1 (at 1 1 ∷ at 2 2 ∷ [])) (row 2 []); marks = [] }) ≡ record { gens = lists 4 (row 1 (at 1 1 ∷ at 2 2 ∷ [])) (row 2 []); marks = [] }
ages-three = refl

-- ---- the search

-- file pages 1, 2 and 4, and anonymous page 3
abbrev mixed : Gens
mixed = lists 3 (row 0 (at 3 0 ∷ [])) (row 0 (at 1 0 ∷ at 2 1 ∷ at 4 2 ∷ []))

-- at the same number the file page comes first, and page 4 of generation 2 is not old
looks : old_pages true mixed ≡ at 1 0 ∷ at 3 0 ∷ at 2 1 ∷ []
looks = refl

-- with no swap block free no anonymous page is looked at
looks-no_swap : old_pages false mixed ≡ at 1 0 ∷ at 2 1 ∷ []
looks-no_swap = refl

-- page 1 is marked and goes to the tail, unmarked. Page 3 is not marked, and so the search ends there: page 2 keeps its place and its mark
passes : passed_by true (record { gens = mixed; marks = false ∷ true ∷ true ∷ false ∷ false ∷ [] })
    ≡ record { gens = lists 3 (row 0 (at 3 0 ∷ [])) (row 0 (at 2 1 ∷ at 4 2 ∷ at 1 3 ∷ [])); marks = false ∷ false ∷ true ∷ false ∷ false ∷ [] }
passes = refl

-- no empty generation stays oldest
settles : settled (record { gens = lists 3 (row 0 (at 3 1 ∷ [])) (row 0 []); marks = [] }) ≡ record { gens = lists 3 (row 1 (at 3 1 ∷ [])) (row 2 []); marks = [] }
settles = refl

-- ---- the page that is evicted next

-- a new group, with anonymous pages 1 and 2 in its youngest generation, both marked
abbrev young : Seen
young = record { gens = added 2 Anon 3 (added 1 Anon 3 new_gens); marks = false ∷ true ∷ true ∷ [] }

-- both are promoted by the first aging, and old after two more
abbrev three_later : Seen
three_later = record { gens = lists 6 (row 4 (at 1 4 ∷ at 2 4 ∷ [])) (row 5 []); marks = false ∷ false ∷ false ∷ [] }

too_early : (n : ℕ) → n < 3 → old_pages true (aged_times n young).gens ≡ []
too_early zero lt = refl
too_early (suc zero) lt = refl
too_early (suc (suc zero)) lt = refl
too_early (suc (suc (suc n))) lt = absurd (omega (arith, lt))

-- after three agings page 1 is the answer, and no page is marked
picks : Picks true young (Some 1) three_later
picks = record { times = 3; none_before = too_early; first = at 1 4; others = at 2 4 ∷ []; old = refl; answers = refl; leaves = refl }

-- with no swap block free there is no answer, and nothing changes
picks-none : Picks false young None young
picks-none = (refl, refl)

-- page 1 is marked, and so page 3 is the answer with no aging. Page 1 stands behind pages 2 and 4 then
picks-unmarked : Picks true (record { gens = mixed; marks = false ∷ true ∷ false ∷ false ∷ false ∷ [] }) (Some 3) (record { gens = lists 3 (row 0 (at 3 0 ∷ [])) (row 1 (at 2 1 ∷ at 4 2 ∷ at 1 3 ∷ [])); marks = false ∷ false ∷ false ∷ false ∷ false ∷ [] })
picks-unmarked = record { times = 0; none_before = λ n lt. absurd (omega (arith, lt)); first = at 3 0; others = at 2 1 ∷ []; old = refl; answers = refl; leaves = refl }
