pub mod Endings
pub mod WholeInputs
pub mod Batches
pub mod BatchEnds
pub mod Runnings
pub mod FlushedEndings
pub mod ShortBlocks
pub mod Designed
mod Samples
