pub mod Basic
pub mod Filling
pub mod Deleting
pub mod Weighting
pub mod Truncating
pub mod FromPbd
pub mod Conditions
pub mod Room
