pub use Rattle.bsi_rows.specs.Runs
pub use Rattle.bsi_rows.specs.Shown
pub use Rattle.bsi_rows.specs.Sizes
