use Rattle.files.proofs.ExtentLemmas.{homes_apart, home_behind, home_before_end}
use Rattle.files.proofs.Files.homes_are_apart.Goals as goal

pub returns : goal.returns
returns c = record { apart = homes_apart _; behind = home_behind _; within = home_before_end _ }
