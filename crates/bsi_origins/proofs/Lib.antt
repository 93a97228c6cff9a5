pub mod Numbers
pub mod Tallying
