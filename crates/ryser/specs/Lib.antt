pub mod Bytes
pub mod RowSums
