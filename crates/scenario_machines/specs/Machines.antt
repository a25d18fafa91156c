-- The machine that the header of a scenario asks for.
use Rattle.std.specs.Prelude.{◌≡◌, ℕ, Bool, true, false, List, [], ◌∷◌, map, flat_map, if◌then◌else◌}
use Rattle.std.specs.Option.{unwrap_or}
use Rattle.machine.specs.declared.config.Config.{Config}
use Rattle.machine.specs.declared.config.File.{File}
use Rattle.machine.specs.declared.config.Watermarks.{Watermarks}
use Rattle.scenario_words.specs.declared.header.DeviceCall.{DeviceCall}
use Rattle.scenario_words.specs.declared.header.DeviceCall.TheVariants as call
use Rattle.scenario_words.specs.declared.header.Failing.{Failing}
use Rattle.scenario_words.specs.declared.header.FileSize.{FileSize}
use Rattle.scenario_words.specs.Header.{Machine}
use Rattle.scenario_words.specs.Names.{script_name}

-- a file, by the script's name of it
abbrev pub file_for : List (List ℕ) → FileSize → File
file_for names f = record { name = script_name names f.name; pages = f.pages }

-- without a line `watermarks` the daemon does nothing
abbrev pub no_watermarks : Watermarks
no_watermarks = record { low = 0; high = 0 }

-- the configuration has the sizes of the header, places pages and protects groups as it says, and has the most room for a history. (Excludes another number of frames, and a file that is left out.)
pub record IsConfigOf (m : Machine) (names : List (List ℕ)) (config : Config) : Type 0 where
  pub frames : config.frames ≡ m.frames
  pub swap : config.swap ≡ m.swap
  pub files : config.files ≡ map (file_for names) m.files
  pub watermarks : config.watermarks ≡ unwrap_or m.watermarks no_watermarks
  pub trace : config.trace ≡ 1048576
  pub recursive : config.recursive ≡ m.recursive
  pub placement : config.placement ≡ m.placement
  pub page_size : config.page_size.bytes ≡ 4096

abbrev pub is_of_call : DeviceCall → DeviceCall → Bool
is_of_call call.Read call.Read = true
is_of_call call.Read call.Write = false
is_of_call call.Write call.Read = false
is_of_call call.Write call.Write = true

-- the number of a call, if it is of this kind
abbrev pub number_of_call : DeviceCall → Failing → List ℕ
number_of_call which f = if is_of_call f.call which then f.number ∷ [] else []

-- the numbers of the device's calls of this kind that fail
abbrev pub failing_calls : DeviceCall → List Failing → List ℕ
failing_calls which failing = flat_map (number_of_call which) failing
