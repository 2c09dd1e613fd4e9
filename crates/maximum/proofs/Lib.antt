pub mod Filling
pub mod Deficient
pub mod Hall
