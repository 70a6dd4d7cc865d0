pub mod Conditions
pub mod Disjoint
pub mod Holes
pub mod Truncations
