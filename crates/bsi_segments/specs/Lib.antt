pub mod Bitmaps
pub mod Bytes
pub mod Lanes
pub mod Schemas
pub mod Segments
