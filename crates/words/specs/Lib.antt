pub mod Word
pub mod Sum
pub mod Walk
