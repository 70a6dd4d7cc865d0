pub mod Entries
pub mod Listed
pub mod Consults
pub mod Consulted
pub mod Left
pub mod CatalogueText
pub mod Loading
