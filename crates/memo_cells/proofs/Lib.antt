pub mod Filling
pub mod TableSteps
pub mod CoreLaws
pub mod Decided
pub mod Advancing
