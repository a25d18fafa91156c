mod CarryLemmas
