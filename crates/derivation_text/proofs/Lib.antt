pub mod Texts
pub mod Readings
pub mod Words
pub mod Clean
pub mod ReadBack
pub mod Exact
pub mod Printed
