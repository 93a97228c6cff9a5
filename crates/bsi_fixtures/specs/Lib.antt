pub mod Columns
pub mod Tables
