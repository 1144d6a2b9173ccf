pub mod PrefixLemmas
pub mod AddsLemmas
pub mod TurnLemmas
pub mod RoundLemmas
