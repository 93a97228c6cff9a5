pub mod Asking
pub mod ReadingAhead
mod Certain
mod Entries
mod Listed
pub mod Mixing
pub mod Ordered
pub mod Passing
mod Perms
mod Places
mod Recorded
mod Replies
mod Selecting
pub mod Showing
mod Telling
mod Texts
mod WholeNumbers
mod Written
