mod DoneTurnLemmas
mod ServingLemmas
mod Fronts
mod Sitting
mod Served
