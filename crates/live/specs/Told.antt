-- What was told to whom: one history of all workers, the newest first.
use Rattle.std.specs.Prelude.{ℕ, ◌==◌, if◌then◌else◌, List, [], ◌∷◌, ◌++◌}
use Rattle.live.specs.declared.history.Exchange.{Exchange}
use Rattle.live.specs.declared.history.Told.{Told}

-- what this worker was told in it, the oldest first
abbrev pub told_to : ℕ → List Told → List Exchange
told_to worker [] = []
told_to worker (told ∷ earlier) = told_to worker earlier ++ (if told.worker == worker then told.what ∷ [] else [])

abbrev pub told : ℕ → Exchange → Told
told worker what = record { worker = worker; what = what }

-- the history, after a worker was told these, one behind another
abbrev pub telling : ℕ → List Exchange → List Told → List Told
telling worker [] log = log
telling worker (what ∷ more) log = telling worker more (told worker what ∷ log)
