pub mod Designs
pub mod Ends
