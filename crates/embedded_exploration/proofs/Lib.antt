pub mod ExploringLemmas
