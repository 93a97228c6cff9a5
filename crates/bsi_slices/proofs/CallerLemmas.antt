-- What proofs of the crates above cite.
pub use Rattle.bsi_slices.proofs.Adding.{length-values_at}
pub use Rattle.bsi_slices.proofs.Ranking.{count_cons, count_numbers}
