pub mod Draws
pub mod Offers
pub mod Requests
pub mod Answered
