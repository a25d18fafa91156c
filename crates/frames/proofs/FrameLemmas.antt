-- Bytes of a frame.
use Rattle.std.proofs.Common.{◌≡◌, ℕ, inl, inr, get_or, replicate}
use Rattle.std.proofs.lemmas.Bool.{cases_lt}
use Rattle.std.proofs.lemmas.List.{get_or-replicate, get_or_past, length-replicate}

-- each byte of so many zeros is a zero, and past the end there is one too
pub get_or-zeros : (n o z : ℕ) → get_or (replicate n z) o z ≡ z
get_or-zeros n o z = elim (cases_lt o n) [ inl lt ↦ get_or-replicate n o z z lt | inr le ↦ get_or_past (replicate n z) o z (simp length-replicate le) ]
