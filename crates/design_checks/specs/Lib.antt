pub mod Findings
pub mod Counts
pub mod Bits
