mod ByEdition
pub mod Library
