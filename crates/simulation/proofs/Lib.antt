mod ReportLemmas
mod MetLemmas
mod NoteLemmas
