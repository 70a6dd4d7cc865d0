pub mod Knowledge
pub mod Lawful
pub mod Core
pub mod Advances
