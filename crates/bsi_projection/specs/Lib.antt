pub mod Chosen
pub mod Joined
pub mod Words
