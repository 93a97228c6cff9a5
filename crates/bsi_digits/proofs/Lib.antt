pub mod BlockEntries
pub mod CallerLemmas
mod Comparing
mod DigitLists
mod Parts
mod Products
mod Reciprocals
mod Refusals
mod Twos
pub mod Unique
mod WeightLists
