pub mod Conditions
pub mod Constructions
