pub mod Flags
pub mod Replication
pub mod Meeting
pub mod Fisher
pub mod Groups
pub mod Parts
pub mod Families
