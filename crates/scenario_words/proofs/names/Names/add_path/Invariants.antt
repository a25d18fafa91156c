use Rattle.std.proofs.Common.{◌≡◌, ◌++◌, take}
use Rattle.std.specs.String.{string_bytes}
use Rattle.scenario_words.specs.Names.{names_text}
use Rattle.scenario_words.proofs.names.Names.add_path.Given as goal

-- the names before this one
abbrev pub invariant-loop-name : goal.invariant-loop-name
invariant-loop-name l = string_bytes l.text ≡ string_bytes l.fn.text ++ names_text l.self (take l.name-index l.path)
