mod LineLemmas
mod MarkLemmas
mod OpeningLemmas
mod RoundingLemmas
mod SceneLemmas
mod TaskLemmas
