pub mod Develop
pub mod Listed
pub mod Seen
pub mod Families
pub mod FamilySteps
pub mod Conditions
