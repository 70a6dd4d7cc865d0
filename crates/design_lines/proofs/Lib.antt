pub mod Bounds
pub mod Digits
pub mod Joined
pub mod CommandRows
pub mod ReadBack
pub mod Runs
pub mod InBounds
pub mod Spaces
pub mod NumberTexts
mod Samples
