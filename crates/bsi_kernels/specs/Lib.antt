pub mod Extremes
pub mod Listing
pub mod Marks
pub mod Nulls
pub mod Places
pub mod Ranks
pub mod Spans
