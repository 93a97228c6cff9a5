pub mod Versions
pub mod History
pub mod Questions
