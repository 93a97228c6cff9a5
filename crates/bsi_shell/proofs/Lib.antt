mod Checking
mod Cutting
mod Describing
mod Flushing
mod Runs
mod Scripts
