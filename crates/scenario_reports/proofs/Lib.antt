mod NoteLemmas
mod ConfirmingLemmas
mod PlainLemmas
mod TaskLemmas
mod VerdictLemmas
