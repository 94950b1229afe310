mod MakingLemmas
mod Applied
pub mod Opened
mod Viewed
