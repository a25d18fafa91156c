-- Words of a head.
use Rattle.std.proofs.Common.{◌≡◌, ℕ, zero, suc, ◌+◌, ◌<◌, true, false, List, [], ◌∷◌, length, drop, codes, Some, refl, arith}
use Rattle.scenario_words.specs.Words.{FilledWord, is_at}
use Rattle.expansion.specs.Frames.{until_among}

pub until_here : (ws : List FilledWord) (k place : ℕ) → k < length ws → is_at ws k (codes "until") ≡ true → until_among (drop k ws) place ≡ Some place
until_here [] k place within e = absurd (omega arith)
until_here (w ∷ ws) zero place within e = rw e refl
until_here (w ∷ ws) (suc k) place within e = until_here ws k place (omega arith) e

pub until_later : (ws : List FilledWord) (k place : ℕ) → k < length ws → is_at ws k (codes "until") ≡ false → until_among (drop k ws) place ≡ until_among (drop (k + 1) ws) (place + 1)
until_later [] k place within e = absurd (omega arith)
until_later (w ∷ ws) zero place within e = rw e refl
until_later (w ∷ ws) (suc k) place within e = let more : suc k + 1 ≡ suc (k + 1) = omega arith in rw more (until_later ws k place (omega arith) e)
