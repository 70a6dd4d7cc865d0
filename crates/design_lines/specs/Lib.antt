pub mod Words
pub mod Source
pub mod Reading
pub mod Grammar
pub mod Keywords
pub mod CommandLines
pub mod Printed
pub mod NumberTexts
