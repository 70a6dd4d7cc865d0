pub mod Appended
pub mod Fronts
pub mod Ordered
pub mod Packing
pub mod Pieces
pub mod RowsAndBlocks
pub mod Sizes
pub mod Walk
