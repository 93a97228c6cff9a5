pub mod ChosenIndexes
pub mod Distinct
pub mod Good
pub mod Growing
pub mod Late
pub mod Lists
pub mod Moments
pub mod Outcomes
pub mod Readings
pub mod Records
mod Seeing
pub mod Saying
pub mod Schemas
pub mod Spelling
pub mod Storing
pub mod Surveying
pub mod Whole
