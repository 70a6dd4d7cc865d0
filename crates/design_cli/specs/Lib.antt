pub mod LineFindings
pub mod Laws
pub mod WholeInputs
pub mod Replays
pub mod Batches
pub mod Report
pub mod Runs
