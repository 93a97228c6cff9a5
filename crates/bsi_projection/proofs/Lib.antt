pub mod Both
pub mod Joining
pub mod Places
pub mod Shown
