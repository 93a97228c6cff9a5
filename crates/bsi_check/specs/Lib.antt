pub mod Checks
pub mod Judges
pub mod Reasons
pub mod Reports
