pub mod Faults
pub mod Pieces
pub mod Recorded
pub mod Buffers
pub mod Inputs
pub mod InputLines
