pub mod Squares
pub mod Triples
pub mod Bose
pub mod Skolem
pub mod Double
pub mod OneGroup
