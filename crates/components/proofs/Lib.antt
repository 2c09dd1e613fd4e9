pub mod Grows
pub mod Finishes
pub mod AllowedTables
pub mod Marks
