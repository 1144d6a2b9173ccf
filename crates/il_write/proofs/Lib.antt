pub mod LayoutLemmas
pub mod ReadBackLemmas
pub mod ReadBodyLemmas
pub mod ReadCodeLemmas
pub mod ReadSectionLemmas
pub mod WritableLemmas
pub mod WrittenLemmas
