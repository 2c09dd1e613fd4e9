pub mod Comparing
pub mod Layouts
mod OneBlock
mod Checking
