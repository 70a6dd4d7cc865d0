pub mod Sums
pub mod Search
pub mod Sorting
pub mod Division
