pub mod BlockTexts
pub mod Fronts
pub mod Numbers
pub mod RowNumbers
pub mod Shortened
pub mod Walks
mod Samples
