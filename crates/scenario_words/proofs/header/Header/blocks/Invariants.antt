use Rattle.std.proofs.Common.{◌≡◌, ◌+◌, ◌-◌, ◌^◌, min, take, sum_by}
use Rattle.scenario_words.proofs.header.Header.blocks.Given as goal

-- swap, and the files before this one
abbrev pub invariant-loop-file : goal.invariant-loop-file
invariant-loop-file l = l.blocks ≡ min (l.self.swap + sum_by (λ f. f.pages) (take l.file-index l.self.files.items)) (2 ^ 32 - 1)
