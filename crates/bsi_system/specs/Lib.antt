pub mod Opening
pub mod Readers
pub mod Rings
pub mod LoaderSteps
