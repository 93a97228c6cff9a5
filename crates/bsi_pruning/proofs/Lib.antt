mod Answered
pub mod Alike
pub mod Asked
pub mod Lines
pub mod Replies
