pub mod Bits
pub mod Sums
pub mod SetLaws
pub mod OneMore
pub mod Walk
pub mod Sweep
pub mod Front
