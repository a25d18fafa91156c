use Rattle.std.proofs.Common.{◌≡◌, map, take}
use Rattle.std.specs.String.{string_bytes}
use Rattle.expansion.proofs.frames.sources.Given as goal

-- the sources of the words so far
abbrev pub invariant-loop-word : goal.invariant-loop-word
invariant-loop-word l = map (λ s. string_bytes s) l.copies.items ≡ map (λ w. w.source) (take l.word-index l.word-items)
