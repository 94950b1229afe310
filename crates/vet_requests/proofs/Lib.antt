mod AskedLemmas
mod FieldRoom
mod FrontLemmas
mod OccurrenceLemmas
pub mod ReadLemmas
mod RequestLemmas
mod RoutePaths
mod RowsFound
mod PartsFit
mod TextsFit
mod RoutesFound
mod Routed
mod ToldOnce
