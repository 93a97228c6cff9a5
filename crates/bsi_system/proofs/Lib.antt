pub mod Beginning
pub mod Fronts
pub mod Mapped
pub mod Messages
pub mod Openings
pub mod Progress
