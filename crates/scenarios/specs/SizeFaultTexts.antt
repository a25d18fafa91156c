-- What is said of a word that is no size.
use Rattle.std.specs.Prelude.{ℕ, List, ◌++◌, codes}
use Rattle.scenarios.specs.declared.sizes.SizeFault.{SizeFault}
use Rattle.scenarios.specs.declared.sizes.SizeFault.TheVariants.{NotSize, TooLarge, LongUnit, Unlimited, Percent}
use Rattle.scenarios.specs.Sizes.{short_unit}

-- what is wrong with a word, and what to write
abbrev pub size_fault_text : List ℕ → SizeFault → List ℕ
size_fault_text word NotSize = codes "\"" ++ (word ++ codes "\" is not a size; write a number with K, M, G or T, or 7p for 7 pages")
size_fault_text word TooLarge = codes "the size \"" ++ (word ++ codes "\" is above 1048576T or 4294967295p; write a smaller one")
size_fault_text word LongUnit = codes "\"" ++ (word ++ (codes "\" is not a size; write " ++ short_unit word))
size_fault_text word Unlimited = codes "\"" ++ (word ++ codes "\" is not a size; write max")
size_fault_text word Percent = codes "\"" ++ (word ++ codes "\" is not a size; write the amount itself, as 64M")
