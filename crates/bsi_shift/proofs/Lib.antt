pub mod Comparing
pub mod Moving
pub mod ColumnComparisons
pub mod Shifting
pub mod Totals
