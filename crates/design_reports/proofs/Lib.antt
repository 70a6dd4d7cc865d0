pub mod Words
pub mod Outputs
pub mod Printable
mod Samples
