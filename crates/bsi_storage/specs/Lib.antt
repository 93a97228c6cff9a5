pub mod Choices
pub mod ChosenColumns
pub mod ChosenFiles
pub mod Decoding
pub mod Faults
pub mod Heads
pub mod Opens
pub mod Saved
