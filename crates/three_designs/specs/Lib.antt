pub mod StrengthThree
pub mod Verdicts
pub mod Arrays
pub mod Quadruples
pub mod Loops
pub mod Laws
