pub mod Related
pub mod Shifted
