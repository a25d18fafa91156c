-- Examples: configurations with files, and those that are out of their limits.
use Rattle.std.proofs.Common.{◌≡◌, ℕ, true, false, List, [], ◌∷◌, refl}
use Rattle.std.specs.Prelude.{◌++◌, codes, map, replicate}
use Rattle.std.specs.List.{range_with_len}
use Rattle.machine.specs.declared.config.Config.{Config}
use Rattle.machine.specs.declared.config.File.{File}
use Rattle.machine.specs.declared.config.Placement.TheVariants.{Own}
use Rattle.machine.specs.State.{opening_of, blocks_of, are_apart, are_files, is_config}
use Rattle.machine.specs.PageSizes.{of_4k}

-- a file of this name, with so many pages
abbrev named : List ℕ → ℕ → File
named name pages = record { name = name; pages = pages }

-- 6 frames, 4 swap blocks, and these files
abbrev sized : ℕ → List File → Config
sized swap files = record { frames = 6; swap = swap; files = files; watermarks = record { low = 1; high = 2 }; trace = 8; turns = 3; recursive = false; placement = Own; page_size = of_4k }

-- the opening has the files' sizes, in their order
opening-sizes : (opening_of (sized 4 (named (codes "a") 3 ∷ named (codes "b") 2 ∷ []))).files ≡ 3 ∷ 2 ∷ []
opening-sizes = refl

-- and is recursive where the configuration is
opening-recursive : (opening_of (record (sized 4 []) { recursive = true })).recursive ≡ true
opening-recursive = refl

opening-not_recursive : (opening_of (sized 4 [])).recursive ≡ false
opening-not_recursive = refl

-- the device has a block for each swap block and for each page of a file
blocks : blocks_of (sized 4 (named (codes "a") 3 ∷ named (codes "b") 2 ∷ [])) ≡ 9
blocks = refl

-- two files
config : is_config (sized 4 (named (codes "a") 3 ∷ named (codes "b") 2 ∷ [])) ≡ true
config = refl

-- none is as well
config-no_file : is_config (sized 4 []) ≡ true
config-no_file = refl

-- no two of one name
config-not_twice : is_config (sized 4 (named (codes "a") 3 ∷ named (codes "b") 2 ∷ named (codes "a") 1 ∷ [])) ≡ false
config-not_twice = refl

-- none without a page
config-not_empty : is_config (sized 4 (named (codes "a") 0 ∷ [])) ≡ false
config-not_empty = refl

-- none without a name
config-not_unnamed : is_config (sized 4 (named [] 1 ∷ [])) ≡ false
config-not_unnamed = refl

-- and no more than 131,072 blocks for swap and files together: these are as many, and one more
config-full : is_config (sized 65536 (named (codes "a") 65536 ∷ [])) ≡ true
config-full = refl

config-too_large : is_config (sized 65536 (named (codes "a") 65536 ∷ named (codes "b") 1 ∷ [])) ≡ false
config-too_large = refl

-- files of one page, whose names are a to a 32 times, and b to b 32 times
abbrev many : List File
many = map (λ n. named (replicate n 97) 1) (range_with_len 1 32) ++ map (λ n. named (replicate n 98) 1) (range_with_len 1 32)

-- 64 files are the most
config-many : are_files many ≡ true
config-many = refl

-- one more is too many
config-too_many : are_files (named (codes "c") 1 ∷ many) ≡ false
config-too_many = refl

-- though its name is none of theirs
config-apart : are_apart (named (codes "c") 1 ∷ many) ≡ true
config-apart = refl
