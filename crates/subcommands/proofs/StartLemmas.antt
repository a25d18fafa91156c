-- A run of a script can begin.
use Rattle.std.proofs.Common.{◌≡◌, ℕ, true, List, length, replicate, arith}
use Rattle.std.proofs.lemmas.List.{length-replicate}
use Rattle.machine.specs.declared.config.Config.{Config}
use Rattle.machine.specs.Access.{page_size}
use Rattle.machine.specs.State.{blocks_of, is_config}
use Rattle.block_store.specs.Device.{new_disk}
use Rattle.driver.specs.Schedule.{fits}
use Rattle.driver.proofs.Runs.{fitting}

-- a new device has the blocks that were asked for
pub new_fits : (config : Config) (reads writes : List ℕ) → is_config config ≡ true → fits config (new_disk (blocks_of config) reads writes) ≡ true
new_fits config reads writes limits =
    let blocks : length (new_disk (blocks_of config) reads writes).contents ≡ blocks_of config = length-replicate (blocks_of config) (replicate page_size 0) in
    fitting config (new_disk (blocks_of config) reads writes) limits (omega (arith, blocks))
