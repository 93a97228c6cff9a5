pub mod Asked
pub mod Faults
pub mod Kinds
pub mod Lines
pub mod Saving
pub mod Surveyed
