pub mod LocationLemmas
pub mod NumberLemmas
pub mod SlotLemmas
pub mod ValueLemmas
