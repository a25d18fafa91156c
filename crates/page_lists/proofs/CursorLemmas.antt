-- How the cursors go on.
use Rattle.std.proofs.Common.{◌≡◌, ℕ, ◌+◌, List, [], ◌∷◌, ◌++◌, length, sym, ap, ◌∙◌, length-append}
use Rattle.std.specs.Prelude.{slice_set}
use Rattle.std.proofs.lemmas.List.{length-set}
use Rattle.machine.specs.Order.{Cursor, no_cursor}
use Rattle.machine.specs.Tree.{Node}

-- a group more, and its cursor
pub cursors-push : (tree : List Node) (node : Node) (cursors cursors' : List Cursor) → length cursors ≡ length tree → cursors' ≡ cursors ++ no_cursor ∷ [] → length cursors' ≡ length (tree ++ node ∷ [])
cursors-push tree node cursors cursors' same pushed =
    ap length pushed ∙ length-append cursors (no_cursor ∷ []) ∙ ap (λ n. n + 1) same ∙ sym (length-append tree (node ∷ []))

pub cursors-set : (cursors cursors' : List Cursor) (target : ℕ) (to : Cursor) → cursors' ≡ slice_set cursors target to → length cursors' ≡ length cursors
cursors-set cursors cursors' target to moves = ap length moves ∙ length-set cursors target to
