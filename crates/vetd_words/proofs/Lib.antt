pub mod AnswerLemmas
pub mod Answered
mod Asking
pub mod HelpLemmas
pub mod RunLemmas
mod SurplusLemmas
mod WordsLemmas
