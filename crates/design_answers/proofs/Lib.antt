pub mod MissingCells
pub mod Offered
mod Samples
pub mod Tallies
