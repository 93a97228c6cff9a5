pub mod Begun
pub mod Ends
pub mod Feds
pub mod Feeding
pub mod Headers
pub mod Prefixes
pub mod Progress
pub mod RunFaults
