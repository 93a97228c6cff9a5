pub mod Declaring
pub mod Fitting
pub mod Naming
pub mod NoNames
