pub mod Adders
pub mod BitList
pub mod BitLists
pub mod Packed
pub mod SetRows
