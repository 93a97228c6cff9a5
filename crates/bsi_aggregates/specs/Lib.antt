pub mod ColumnGroups
pub mod Entries
pub mod Groups
pub mod Quantiles
pub mod QuestionReplies
pub mod Replies
pub mod Tallies
pub mod Tops
