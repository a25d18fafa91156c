-- The lists of all groups by their numbers, as links see them.
use Rattle.std.specs.Prelude.{ℕ, ◌+◌, ◌*◌, ◌%◌, ◌==◌, List, [], ◌∷◌, ◌++◌, map, filter}
use Rattle.machine.specs.declared.record.Kind.{Kind}
use Rattle.machine.specs.Generations.{Listed, Gens, of_kind}
use Rattle.rings.specs.RingNodes.{head_node}
use Rattle.rings.specs.Rings.{list_at, first_node, last_node, KeepsLinksBut}

-- the number of a generation's list: each group has eight, and four of them each type, which its generations take in turn
abbrev pub slot : ℕ → Kind → ℕ → ℕ
slot g kind seq = g * 8 + of_kind kind 0 4 + seq % 4

-- the pages of a row that are on the list of one turn
abbrev pub on_turn : List Listed → ℕ → List ℕ
on_turn pages turn = map (λ l. l.page) (filter (λ l. l.seq % 4 == turn) pages)

-- the eight lists of a group
abbrev pub lists_of_group : Gens → List (List ℕ)
lists_of_group gens =
    on_turn gens.anon.pages 0 ∷ on_turn gens.anon.pages 1 ∷ on_turn gens.anon.pages 2 ∷ on_turn gens.anon.pages 3
    ∷ on_turn gens.file.pages 0 ∷ on_turn gens.file.pages 1 ∷ on_turn gens.file.pages 2 ∷ on_turn gens.file.pages 3 ∷ []

-- those of all groups
abbrev pub lists_of : List Gens → List (List ℕ)
lists_of [] = []
lists_of (gens ∷ more) = lists_of_group gens ++ lists_of more

-- where the pages of one list come in front of those of another, all nodes but five keep their links
abbrev pub KeepsLinksOfMerge : List (List ℕ) → List (List ℕ) → ℕ → ℕ → Type 0
KeepsLinksOfMerge old new source target =
    KeepsLinksBut
    (head_node source ∷ head_node target ∷ first_node source (list_at old source) ∷ last_node source (list_at old source)
    ∷ first_node target (list_at old target) ∷ [])
    old new
