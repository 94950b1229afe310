mod AnswerLemmas
mod AskedLemmas
pub mod DoneLemmas
pub mod ServeLemmas
mod TurnLemmas
