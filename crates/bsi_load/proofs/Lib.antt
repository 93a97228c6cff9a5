pub mod Changes
pub mod Machines
