pub mod Bound
pub mod Laws
pub mod Samples
pub mod Tables
