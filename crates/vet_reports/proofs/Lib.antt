pub mod ColumnLemmas
pub mod CsvLemmas
pub mod LapseLemmas
pub mod ReviewLemmas
pub mod StandingLemmas
