pub mod Columns
pub mod Limits
pub mod Names
pub mod Refusals
