pub mod Vectors
pub mod Points
pub mod Lines
pub mod Least
pub mod MetPairs
pub mod LinearSpaces
pub mod Coefficients
pub mod GeometryLines
