pub mod AllRecords
mod Declaring
pub mod Determined
mod Filling
pub mod FirstRecords
pub mod Joining
pub mod Layouts
mod Left
pub mod Named
mod Pasts
pub mod Standing
pub mod Taking
mod Turns
pub mod Waiting
mod Writes
