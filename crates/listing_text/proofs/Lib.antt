pub mod Begun
mod Digits
mod LineParts
mod PlansGiven
mod FirstSteps
pub mod FileListing
