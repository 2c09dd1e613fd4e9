pub mod Levels
pub mod DualBounds
pub mod Raises
pub mod Squares
