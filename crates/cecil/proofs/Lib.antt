mod ReadLemmas
mod WordLemmas
mod WriteLemmas
