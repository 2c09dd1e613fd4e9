pub mod Spans
pub mod Moves
pub mod Vacants
pub mod Searches
pub mod Bars
pub mod Exists
pub mod Completes
pub mod LastSlots
