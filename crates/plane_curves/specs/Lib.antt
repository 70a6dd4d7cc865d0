pub mod Traces
pub mod Curves
pub mod Secants
pub mod Conditions
pub mod Laws
