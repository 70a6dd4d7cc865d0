pub mod Endings
pub mod Texts
pub mod Parts
pub mod Reports
pub mod Answers
