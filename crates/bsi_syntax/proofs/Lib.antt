mod Adding
pub mod Appended
mod Asking
mod ColumnRecords
mod Digits
pub mod EventWords
mod Events
mod Fields
mod Firsts
mod Parts
pub mod Ranked
mod RowTexts
mod SpellReading
mod SpellSteps
mod SpellWords
pub mod Spelling
mod Tables
pub mod Values
