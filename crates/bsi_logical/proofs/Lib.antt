mod Alike
mod Building
mod Called
mod Exactly
mod Fields
mod Plain
mod PlainTexts
mod Saying
pub mod Titling
mod ValueTexts
